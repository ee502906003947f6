use Rattle.std.proofs.Common.{◌≡◌, length, arith}
use Rattle.pv_path.proofs.TurnLemmas.{all_symbols}
use Rattle.pv_path.proofs.path.PathAsker.fresh.Goals as goal

pub returns-then-made-eq-MOST_SYMBOLS-clause-full : goal.returns-then-made-eq-MOST_SYMBOLS-clause-full
returns-then-made-eq-MOST_SYMBOLS-clause-full c =
    let self = c.args.self.now in
    let all : length self.sorts.items ≡ 4294967294 =
    omega (arith, self.sorts.ok.0, c.len-made.ensures, c.if-made-eq-MOST_SYMBOLS.true) in
    all_symbols self.choices.branches.items _ self.choices.literals.items _ self.choices.same self.choices.possible self.narrowed
    all
