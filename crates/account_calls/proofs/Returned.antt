-- A return keeps the account: of a call, and of the method in which a run began.
use Rattle.std.proofs.Common.{◌≡◌, ℕ, ◌<◌, List, [], ◌∷◌, refl, ap, sym, subst, ◌∙◌, arith}
use Rattle.std.specs.Prelude.{drop}
use Rattle.pv_picks.specs.declared.check.Check.TheVariants as check
use Rattle.pv_picks.specs.Plain.Core.{Message, Program}
use Rattle.pv_picks.specs.Machine.Tasks.{Task, AtClose, Stand}
use Rattle.pv_picks.specs.Machine.Frames.{Frame, sight_of, contract_scene, pushes, settled}
use Rattle.pv_picks.specs.Formulas.Meeting.{unmet}
use Rattle.pv_picks.specs.Machine.Worlds.{World, Role, Entry, RunOf, MemberOf, Mode, has_no_frame, with_frames}
use Rattle.pv_picks.specs.Machine.Steps.{Result, needs_met, returned, ended, act_end, act_tasks, act}
use Rattle.account_formulas.specs.Growing.{HeapFits}
use Rattle.account_formulas.specs.Gaining.{PredicatesFit}
use Rattle.account_formulas.proofs.Still.{settled_still}
use Rattle.account.specs.Frames as account
use Rattle.account.specs.Frames.{standing_in, IsBodyOf, IsRunOf, WaitsFor, AllWait, AreRunsOf, called_of, amounts_of, all_of}
use Rattle.account.specs.Owners.{nothing}
use Rattle.account.specs.Objects.{AtBottom, RoleFits}
use Rattle.account.specs.Messages.{TasksExchange, bottom_tasks}
use Rattle.account.specs.Accounts.{Account, Kept}
use Rattle.account.proofs.Exchanging.{settled_exchanges}
use Rattle.account.specs.Going.{Goes}
use Rattle.account.proofs.LocalWork.{settled_goes, below_settled}
use Rattle.account.proofs.Stepping.{own_most, by_run}
use Rattle.account.proofs.Later.{grown_same, keeps_same}
use Rattle.account.proofs.Bottom.{bottom_exchanges, stays_at_bottom}
use Rattle.account.proofs.Moving.{first_same, ends, closes_not, settled_leaves_not, leaves_nothing}
use Rattle.account.proofs.Onward.{nothing_new, Moves, accounted}
use Rattle.account.proofs.Ended.{end_met}
use Rattle.account_calls.proofs.Returning.{ReturnGoes, returns_go}

no_task_waits : (f h : Frame) (fs hs : List Frame) (b : ℕ) (ts : List Task) → f.tasks ≡ [] → f ∷ fs ≡ h ∷ hs
    → h.tasks ≡ Stand (AtClose b) ∷ ts → ⊥
no_task_waits f h fs hs b ts ended e at =
    let same : f.tasks ≡ Stand (AtClose b) ∷ ts = ap (λ z. z.tasks) (first_same f h fs hs e) ∙ at in absurd (cc (ended, same))

module _ (p : Program) (w : World) (sound : HeapFits p w.heap) (framed : PredicatesFit p w.heap) (a : Account p w) (i : ℕ)
    (inside : i < w.count) (f : Frame) (over : f.tasks ≡ []) where
  -- to a frame that waits
  module _ (g : Frame) (others : List Frame) (stands_at : (w.threads i).frames ≡ f ∷ g ∷ others) where
    abbrev Onto : List Task → Frame
    Onto rest = pushes f.result g rest

    return_moves : (r s : account.Run) (rs : List account.Run) → a.owners.runs i ≡ r ∷ s ∷ rs
        → AreRunsOf p w.committed w.heap (f ∷ g ∷ others) (r ∷ s ∷ rs) → (rest : List Task)
        → (d : ReturnGoes p w.committed w.heap f r g s rest)
        → Goes p w.committed w.heap (settled (Onto rest)) d.run
        → drop 1 g.tasks ≡ rest
        → Moves p w a i w.heap (settled (Onto rest) ∷ others)
    return_moves r s rs has fits rest d go behind = record {
      runs = go.run ∷ rs;
      fits = (
        go.fits,
        below_settled p w.committed w.heap sound framed (Onto rest) d.run go others rs
            (subst (λ c. AllWait p w.committed w.heap c others rs) (sym d.stays) fits.1.1),
      );
      goes = record {
        bottom = λ P stays b. stays_at_bottom g (settled (Onto rest)) s go.run
            (let k = settled_still (Onto rest) in
            record { class = k.class; method = k.method; this = k.this; begun = k.begun; old = k.old })
            (go.body ∙ ap (λ c. c.body) d.stays) P stays others rs
            (subst (λ fs. AtBottom P fs (r ∷ s ∷ rs)) stands_at (subst (λ ys. AtBottom P (w.threads i).frames ys) has b));
        messages = λ S R b. bottom_exchanges S R g (settled (Onto rest))
            (λ h. settled_exchanges S R (Onto rest) (subst (λ ts. TasksExchange S R ts) behind (later S R g.tasks h))) others
            (subst (λ fs. TasksExchange S R (bottom_tasks fs)) stands_at b);
        live = ap has_no_frame stands_at;
        stood = λ h hs b ts e at. absurd (no_task_waits f h (g ∷ others) hs b ts over (sym stands_at ∙ e) at);
        closes = λ h hs b ts e at. closes_not (standing_in p (settled (Onto rest)).class go.run.body go.run.outer) go.run.inner
            go.run.scope go.run.given go.run.stack (settled (Onto rest)) go.says b ts
            (ap (λ z. z.tasks) (first_same (settled (Onto rest)) h others hs e) ∙ at);
      };
      leaves = leaves_nothing p w.committed w.heap (w.threads i).role w.blocks a.owners (settled (Onto rest)) others (go.run ∷ rs)
          (a.owners.left i) (settled_leaves_not p w.committed w.heap (Onto rest) d.run go);
      fresh = nothing;
      less = λ q. let l = go.less q in let k = d.less q in let same = ap (λ ys. all_of ys q) has in omega (arith, l, k, same);
      new = nothing_new p w a w.heap refl;
      grown = grown_same w.heap;
      null = λ c at. at;
      keeps = λ B less. keeps_same B w.heap;
    }
      where
        later : (S R : Message → Type 0) (ts : List Task) → TasksExchange S R ts
            → TasksExchange S R (drop 1 ts)
        later S R [] h = tt
        later S R (t ∷ ts) h = h.1

    by_role : (role : Role)
        → Kept p (needs_met (unmet (sight_of w.heap f) (contract_scene f) f.method.contract.after) check.Ensures
        (Result.Went (returned p w i f (g ∷ others) (g ∷ others))))
        → Kept p (act_end p w i f (g ∷ others) role (g ∷ others))
    by_role Entry k = k
    by_role (RunOf x) k = k
    by_role (MemberOf b position) k = k

    return_by : (mode : Mode) (r : account.Run) (rs : List account.Run) → a.owners.runs i ≡ r ∷ rs
        → AreRunsOf p w.committed w.heap (f ∷ g ∷ others) (r ∷ rs) → Kept p (act_end p w i f (g ∷ others) (w.threads i).role
        (g ∷ others))
    return_by mode r [] has fits = absurd fits.1
    return_by mode r (s ∷ rs) has fits =
        let waits : WaitsFor p w.committed w.heap (called_of f r) g s = fits.1.0 in
        let d = returns_go p w.committed w.heap sound framed f r fits.0 over g s waits
        (λ q. let m = own_most p w a i inside (r ∷ s ∷ rs) has q in omega (arith, m)) in
        let go = settled_goes p w.committed w.heap sound framed (Onto waits.rest) d.run d.fits d.says
        (λ q. let m = own_most p w a i inside (r ∷ s ∷ rs) has q in let l = d.less q in omega (arith, m, l)) in
        let behind : drop 1 g.tasks ≡ waits.rest = ap (drop 1) waits.is in
        by_role (w.threads i).role
        (subst (λ o. Kept p (needs_met o check.Ensures (Result.Went (returned p w i f (g ∷ others) (g ∷ others)))))
        (sym (end_met p w.committed w.heap f r fits.0 over sound f.method waits.called))
        (subst (λ ts. Account p (with_frames w i (settled (Onto ts) ∷ others))) (sym behind)
        (accounted p w a i inside w.heap (settled (Onto waits.rest) ∷ others)
        (return_moves r s rs has fits waits.rest d go behind))))

    pub return_keeps : (mode : Mode) → Kept p (act p w mode i)
    return_keeps mode = by_run p w a i inside f (g ∷ others) stands_at mode (λ r rs has fits.
        subst (λ ts. Kept p (act_tasks p w i f (g ∷ others) mode ts)) (sym over) (return_by mode r rs has fits))

  -- of the first call of a run
  module _ (stands_at : (w.threads i).frames ≡ f ∷ []) (entry : (w.threads i).role ≡ Entry) where
    entry_moves : Moves p w a i w.heap []
    entry_moves = record {
      runs = [];
      fits = tt;
      goes = ends w.threads a.owners i f stands_at over;
      leaves = record {
        ended = λ b position role none. absurd (cc (entry, role));
        arrived = λ b position role. absurd (cc (entry, role));
      };
      fresh = nothing;
      less = λ q. omega arith;
      new = nothing_new p w a w.heap refl;
      grown = grown_same w.heap;
      null = λ c at. at;
      keeps = λ B less. keeps_same B w.heap;
    }

    entry_body : (r : account.Run) (rs : List account.Run) → a.owners.runs i ≡ r ∷ rs → IsBodyOf f.method r.body
    entry_body r rs has =
        (subst (λ role. RoleFits p w.committed w.heap w.state i role (f ∷ []) (r ∷ rs)) entry
        (subst (λ fs. RoleFits p w.committed w.heap w.state i (w.threads i).role fs (r ∷ rs)) stands_at
        (subst (λ ys. RoleFits p w.committed w.heap w.state i (w.threads i).role (w.threads i).frames ys) has
        (a.roles i inside)))).body

    pub entry_ends : (mode : Mode) → Kept p (act p w mode i)
    entry_ends mode = by_run p w a i inside f [] stands_at mode (λ r rs has fits.
        subst (λ ts. Kept p (act_tasks p w i f [] mode ts)) (sym over)
        (subst (λ z. Kept p (act_end p w i f [] z [])) (sym entry)
        (subst (λ o. Kept p (needs_met o check.Ensures (Result.Went (returned p w i f [] []))))
        (sym (end_met p w.committed w.heap f r fits.0 over sound f.method (entry_body r rs has)))
        (subst (λ z. Account p (ended p w i f [] z)) (sym entry)
        (accounted p w a i inside w.heap [] entry_moves)))))
