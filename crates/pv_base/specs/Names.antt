-- When two names are one.
use Rattle.std.specs.Prelude.{Bool, nat_eq}
use Rattle.pv_base.specs.declared.Name.{Name}

abbrev pub same_name : Name → Name → Bool
same_name a b = nat_eq a.0 b.0
