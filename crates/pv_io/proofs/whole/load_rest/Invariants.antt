use Rattle.std.proofs.Common.{◌≡◌, ◌≤◌, ◌-◌, vec_len}
use Rattle.pv_io.proofs.Partial.{HasRead}
use Rattle.pv_io.proofs.whole.load_rest.Given as goal

abbrev pub invariant-loop-bytes : goal.invariant-loop-bytes
invariant-loop-bytes g l =
    record {
      reads : HasRead (g.F.Shelf.rest l.fn.shelf) (g.F.Shelf.rest l.shelf) l.bytes.items;
      within : vec_len l.bytes ≤ l.limit;
      taken : g.F.Shelf.taken l.shelf ≡ vec_len l.bytes;
      files : g.F.Shelf.files l.shelf ≡ g.F.Shelf.files l.fn.shelf;
      hits : g.F.Shelf.hits l.shelf ≡ g.F.Shelf.hits l.fn.shelf;
      misses : g.F.Shelf.misses l.shelf ≡ g.F.Shelf.misses l.fn.shelf;
      faults : g.F.Shelf.faults l.shelf ≡ g.F.Shelf.faults l.fn.shelf;
    }

abbrev pub decreases-loop-bytes : goal.decreases-loop-bytes
decreases-loop-bytes g l = l.limit - vec_len l.bytes
