-- Each statement of the worked programs fits.
use Rattle.std.proofs.Common.{refl, inl}
use Rattle.pv_ast.specs.declared.PvType.{PvType}
use Rattle.pv_ast.specs.declared.PvType.TheVariants as type
use Rattle.worked_programs.specs.Nodes.{name}
use Rattle.worked_programs.specs.CoreObjects.{writers, grow}
use Rattle.worked_programs.specs.CoreArrays.{fill}
use Rattle.worked_programs.specs.CoreThreads.{copying, twice}
use Rattle.pv_picks.specs.Typing.Blocks.{ends, goes_first, declares, assigns, branches, loops, opens, acts, sends, receives, ProgramFits}
use Rattle.worked_runs.proofs.Classes.{by_classes}

pub writers_fit : ProgramFits writers
writers_fit = by_classes writers (
  (
    record {
      fits = record { body = goes_first (assigns type.Int ((refl, refl), refl) refl) ends; result = λ t h. absurd (cc) };
      run = λ h. refl;
    },
    tt,
  ),
  (
    tt,
    (
      (
        record {
          fits = record {
            body = goes_first (acts refl (_, refl)) (goes_first (acts refl (_, refl)) ends);
            result = λ t h. absurd (cc);
          };
          run = λ h. absurd (cc);
        },
        tt,
      ),
      tt,
    ),
  ),
)

pub grow_fits : ProgramFits grow
grow_fits = by_classes grow (
  (
    record {
      fits = record {
        body = declares type.Int refl refl (declares type.Int refl refl (goes_first (loops (refl, refl, refl)
            (goes_first (assigns type.Int refl (refl, refl, refl)) (goes_first (assigns type.Int refl (refl, refl, refl)) ends)))
            ends));
        result = λ t h. absurd (cc);
      };
      run = λ h. absurd (cc);
    },
    tt,
  ),
  tt,
)

pub twice_fits : ProgramFits twice
twice_fits = by_classes twice (
  (
    record {
      fits = record {
        body = goes_first (acts refl (_, refl)) (goes_first (assigns type.Int (refl, refl) refl)
            (goes_first (assigns type.Int (refl, refl) refl) (goes_first (acts refl (_, refl)) ends)));
        result = λ t h. absurd (cc);
      };
      run = λ h. absurd (cc);
    },
    tt,
  ),
  (
    (
      record {
        fits = record {
          body = declares (type.Object (name 2)) refl refl (goes_first (acts refl (_, refl))
              (goes_first (acts refl (_, refl)) (goes_first (acts refl (_, refl)) ends)));
          result = λ t h. absurd (cc);
        };
        run = λ h. absurd (cc);
      },
      tt,
    ),
    tt,
  ),
)

pub fill_fits : ProgramFits fill
fill_fits = by_classes fill (
  (
    record {
      fits = record {
        body = declares type.Int refl (refl, refl) (goes_first (loops (refl, (refl, refl), refl)
            (goes_first (assigns type.Int ((refl, refl), refl, inl refl, refl) refl)
            (goes_first (assigns type.Int refl (refl, refl, refl)) ends))) ends);
        result = λ t h. absurd (cc);
      };
      run = λ h. refl;
    },
    tt,
  ),
  (
    (
      record {
        fits = record {
          body = declares worker refl refl (declares worker refl refl
              (goes_first (assigns type.IntArray (refl, refl) refl)
              (goes_first (assigns type.Int (refl, refl) refl) (goes_first (assigns type.Int (refl, refl) refl)
              (goes_first (assigns type.IntArray (refl, refl) refl)
              (goes_first (assigns type.Int (refl, refl) refl) (goes_first (assigns type.Int (refl, refl) refl)
              (goes_first (acts refl (_, refl)) (goes_first (acts refl (_, refl))
              (goes_first (acts refl (_, refl)) (goes_first (acts refl (_, refl)) ends)))))))))));
          result = λ t h. absurd (cc);
        };
        run = λ h. absurd (cc);
      },
      tt,
    ),
    tt,
  ),
)
  where
    worker : PvType
    worker = type.Object (name 0)

pub copying_fits : ProgramFits copying
copying_fits = by_classes copying (
  (
    record {
      fits = record {
        body = goes_first (opens refl refl
            (goes_first (assigns type.Int (refl, refl, inl refl, refl) (refl, refl, inl refl, refl))
            (goes_first sends (goes_first receives
            (goes_first (branches (refl, refl, refl)
            (goes_first (assigns type.Int (refl, refl, inl refl, refl) (refl, (refl, refl, refl), inl refl, refl)) ends) ends)
            ends))))) ends;
        result = λ t h. absurd (cc);
      };
      run = λ h. absurd (cc);
    },
    tt,
  ),
  tt,
)
