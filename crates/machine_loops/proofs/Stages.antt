-- While members of a counted loop step: what stays; and that a step of a lower member may come before one of a higher member.
use Rattle.std.proofs.Common.{◌≡◌, ℕ, ◌-◌, ◌<◌, ◌≤◌, ℤ, pos, true, false, Option, Some, None, List, [], ◌∷◌, sym, ap, subst, arith, ◌∙◌, inl, inr, ⊎_elim}
use Rattle.std.specs.Prelude.{◌+ℤ◌, ◌-ℤ◌}
use Rattle.std.proofs.lemmas.Bool.{cases_eq}
use Rattle.pv_base.specs.declared.Name.{Name}
use Rattle.pv_values.specs.declared.value.Value.{Value}
use Rattle.pv_values.specs.declared.value.Location.{Location}
use Rattle.pv_picks.specs.Plain.Core.{Program}
use Rattle.pv_picks.specs.Formulas.Heaps.{Heap}
use Rattle.pv_picks.specs.Machine.Labels.{Label}
use Rattle.pv_picks.specs.Machine.Tasks.{Step, AtRead, AtWrite, AtLength, AtAssert, AtFold, AtHead, AtSend, AtReceive, Task, Stand}
use Rattle.pv_picks.specs.Machine.Frames.{Frame}
use Rattle.pv_picks.specs.Machine.Worlds.{Role, MemberOf, Thread, Mode, Free, World, waits_in, waits_as, is_held_back, label_of_frame, label_of_frames, next}
use Rattle.pv_picks.specs.Machine.Steps.{Result, act}
use Rattle.pv_picks.specs.Machine.Safety.{IsReached, IsSafe, is_able, may_step}
use Rattle.machine_laws.proofs.Changes.{reached_next}
use Rattle.machine_loops.specs.Quiet.{are_quiet}
use Rattle.machine_loops.proofs.Quiet.{AreQuietFrames, settled-quiet}
use Rattle.machine_loops.proofs.Effects.{after_step, after_tasks, after_frames, thread_after, message_by, write_of, write_in, read_of, read_in, after, act-effect}
use Rattle.machine_loops.proofs.Able.{HasMessages, act-able}
use Rattle.machine_loops.proofs.Results.{able-goes, went_same}
use Rattle.machine_loops.proofs.Swaps.{AreApart, IsReadApart, at-same, thread-after, sent-low, sent-mode, sent-first, sent-more, sent-elsewhere, message-from, below-member, after-swap}

-- the members of a counted loop, from one number to below another, in a reached world
pub record Stage (p : Program) (lo hi b : ℕ) (low : ℤ) (m : Mode) (w : World) : Type 0 where
  pub reached : IsReached p w
  pub role : (j : ℕ) → lo ≤ j → j < hi → (w.threads j).role ≡ MemberOf b (low +ℤ pos (j - lo))
  pub quiet : (j : ℕ) → lo ≤ j → j < hi → AreQuietFrames (w.threads j).frames
  pub mode : (w.blocks b).mode ≡ m
  pub first : (w.blocks b).first ≡ lo

step-quiet : (h : Heap) (f : Frame) (step : Step) (rest : List Task) → are_quiet (Stand step ∷ rest) ≡ true
    → are_quiet (after_step h f step rest).tasks ≡ true
step-quiet h f (AtRead spot span) rest q = q
step-quiet h f (AtWrite spot span) rest q = q
step-quiet h f (AtLength type span) rest q = q
step-quiet h f (AtAssert formula) rest q = q
step-quiet h f (AtFold class predicate count span) rest q = q
step-quiet h f (AtHead named loop) rest q = q
step-quiet h f (AtSend message span) rest q = q
step-quiet h f (AtReceive message span) rest q = q
step-quiet h f _ rest q = absurd cc

tasks-quiet : (h : Heap) (f : Frame) (ts : List Task) → are_quiet ts ≡ true → AreQuietFrames (after_tasks h f ts)
tasks-quiet h f [] q = tt
tasks-quiet h f (Stand step ∷ rest) q = settled-quiet (after_step h f step rest) (step-quiet h f step rest q)
tasks-quiet h f _ q = tt

frames-quiet : (h : Heap) (fs : List Frame) → AreQuietFrames fs → AreQuietFrames (after_frames h fs)
frames-quiet h [] q = tt
frames-quiet h (f ∷ []) q = tasks-quiet h f f.tasks q
frames-quiet h (f ∷ g ∷ below) q = absurd q

-- a thread after a step of a member
own-after : (w : World) (b : ℕ) (x : ℤ) (i : ℕ) → (after w b x i).threads i ≡ thread_after w i
own-after w b x i = at-same i (thread_after w i) w.threads

thread-keeps : (P : Thread → Type 0) (w : World) (b : ℕ) (x : ℤ) (i k : ℕ) → P (w.threads k)
    → (P (w.threads i) → P (thread_after w i)) → P ((after w b x i).threads k)
thread-keeps P w b x i k h f = ⊎_elim
    (λ (e : i ≡ k). subst (λ (n : ℕ). P ((after w b x i).threads n)) e
    (subst P (sym (own-after w b x i)) (f (subst (λ (n : ℕ). P (w.threads n)) (sym e) h))))
    (λ (ne : i ≡ k → ⊥). subst P (sym (thread-after w b x i k ne)) h)
    (cases_eq i k)

-- the position of a member, by the number of the first one and the lower bound
abbrev pub position : ℕ → ℤ → ℕ → ℤ
position lo low j = low +ℤ pos (j - lo)

-- a step of a member goes to the world after it, and keeps the stage
pub stage-after : (p : Program) (lo hi b : ℕ) (low : ℤ) (m n : Mode) (w v : World) (j : ℕ) → Stage p lo hi b low m w → lo ≤ j
    → j < hi → act p w n j ≡ Result.Went v → v ≡ after w b (position lo low j) j
stage-after p lo hi b low m n w v j s x y h = act-effect p w v j b (position lo low j) n (s.role j x y) (s.quiet j x y) h

stage-of : (p : Program) (lo hi b : ℕ) (low : ℤ) (m : Mode) (w : World) (j : ℕ) → Stage p lo hi b low m w
    → IsReached p (after w b (position lo low j) j) → Stage p lo hi b low m (after w b (position lo low j) j)
stage-of p lo hi b low m w j s r =
    let sent = message_by w b (position lo low j) j in record {
      reached = r;
      role =
          λ k x y. thread-keeps (λ (t : Thread). t.role ≡ MemberOf b (position lo low k)) w b (position lo low j) j k
          (s.role k x y) (λ e. e);
      quiet =
          λ k x y. thread-keeps (λ (t : Thread). AreQuietFrames t.frames) w b (position lo low j) j k (s.quiet k x y)
          (λ q. frames-quiet w.heap (w.threads j).frames q);
      mode = sent-mode w.blocks b sent ∙ s.mode;
      first = sent-first w.blocks b sent ∙ s.first;
    }

pub stage-next : (p : Program) (lo hi b : ℕ) (low : ℤ) (m n : Mode) (w v : World) (j : ℕ) → Stage p lo hi b low m w → lo ≤ j
    → j < hi → act p w n j ≡ Result.Went v → Stage p lo hi b low m v
stage-next p lo hi b low m n w v j s x y h =
    let e = stage-after p lo hi b low m n w v j s x y h in
    let r : IsReached p v = reached_next p w v n j s.reached h in
    subst (λ (u : World). Stage p lo hi b low m u) (sym e)
    (stage-of p lo hi b low m w j s (subst (λ (u : World). IsReached p u) e r))

-- in a free loop nobody is held back
free-held : (p : Program) (lo hi b : ℕ) (low : ℤ) (w : World) (j : ℕ) → Stage p lo hi b low Free w → lo ≤ j → j < hi
    → is_held_back w j ≡ false
free-held p lo hi b low w j s x y =
    ap (λ (r : Role). waits_as w j r) (s.role j x y) ∙ ap (λ (m : Mode). waits_in w j (w.blocks b) m) s.mode

-- what is written and read, by the next label
write-label : (role : Role) (f : Frame) (ts : List Task) (below : List Frame) (z : Location × Value) → write_of f ts ≡ Some z
    → label_of_frame role f ts below ≡ Some (Label.Write z.0 z.1)
write-label role f (Stand (AtWrite spot span) ∷ rest) below z h = ap to_label h
  where
    to_label : Option (Location × Value) → Option Label
    to_label None = None
    to_label (Some z) = Some (Label.Write z.0 z.1)
write-label role f _ below z h = absurd (cc)

write-next : (role : Role) (fs : List Frame) (z : Location × Value) → write_in fs ≡ Some z
    → label_of_frames role fs ≡ Some (Label.Write z.0 z.1)
write-next role [] z h = absurd (cc)
write-next role (f ∷ below) z h = write-label role f f.tasks below z h

read-label : (role : Role) (f : Frame) (ts : List Task) (below : List Frame) (q : Location) → read_of f ts ≡ Some q
    → label_of_frame role f ts below ≡ Some (Label.Read q)
read-label role f (Stand (AtRead spot span) ∷ rest) below q h = ap to_label h
  where
    to_label : Option Location → Option Label
    to_label None = None
    to_label (Some q) = Some (Label.Read q)
read-label role f _ below q h = absurd (cc)

read-next : (role : Role) (fs : List Frame) (q : Location) → read_in fs ≡ Some q → label_of_frames role fs ≡ Some (Label.Read q)
read-next role [] q h = absurd (cc)
read-next role (f ∷ below) q h = read-label role f f.tasks below q h

-- a lower member that may step behind a step of a higher member may step before it
able-before : (p : Program) (lo hi b : ℕ) (low : ℤ) (w u : World) (l h : ℕ) → Stage p lo hi b low Free w
    → Stage p lo hi b low Free u → lo ≤ l → l < h → h < hi → u ≡ after w b (position lo low h) h → is_able (act p u Free l) ≡ true
    → is_able (act p w Free l) ≡ true
able-before p lo hi b low w u l h s t a c d eu able =
    let y : l < hi = omega arith in
    let ne : h ≡ l → ⊥ = (λ (e : h ≡ l). omega (arith, e, c)) in
    let zl : ℤ = position lo low l in
    let zh : ℤ = position lo low h in
    let sent : Option (Name × ℤ) = message_by w b zh h in
    let there : HasMessages u w b zl = (λ label k e.
    sent-elsewhere w.blocks b sent label (zl -ℤ pos k)
    (λ m f g. below-member low (l - lo) (h - lo) k (omega arith) (g ∙ message-from (w.blocks b).high zh (w.threads h).frames m f))
    (subst (λ (x : World). (x.blocks b).sent label (zl -ℤ pos k) ≡ true) eu e)) in
    act-able p u w l b zl Free Free (t.role l a y)
    (sym (ap (λ (x : World). x.threads l) eu ∙ thread-after w b zh h l ne))
    (sym (ap (λ (x : World). (x.blocks b).low) eu ∙ sent-low w.blocks b sent)) there
    (free-held p lo hi b low w l s a y) (t.quiet l a y) able

-- and a higher member that may step may step behind a step of a lower member
able-behind : (p : Program) (lo hi b : ℕ) (low : ℤ) (w x : World) (l h : ℕ) → Stage p lo hi b low Free w
    → Stage p lo hi b low Free x → lo ≤ l → l < h → h < hi → x ≡ after w b (position lo low l) l → is_able (act p w Free h) ≡ true
    → is_able (act p x Free h) ≡ true
able-behind p lo hi b low w x l h s t a c d ex able =
    let o : lo ≤ h = omega arith in
    let en : l ≡ h → ⊥ = (λ (e : l ≡ h). omega (arith, e, c)) in
    let zl : ℤ = position lo low l in
    let zh : ℤ = position lo low h in
    let sent : Option (Name × ℤ) = message_by w b zl l in
    let there : HasMessages w x b zh = (λ label k e.
    subst (λ (y : World). (y.blocks b).sent label (zh -ℤ pos k) ≡ true) (sym ex)
    (sent-more w.blocks b sent label (zh -ℤ pos k) e)) in
    act-able p w x h b zh Free Free (s.role h o d)
    (ap (λ (y : World). y.threads h) ex ∙ thread-after w b zl l h en)
    (ap (λ (y : World). (y.blocks b).low) ex ∙ sent-low w.blocks b sent) there
    (free-held p lo hi b low x h t o d) (s.quiet h o d) able

-- two ways to one world
meet : (b : ℕ) (zl zh : ℤ) (l h : ℕ) (w u v x y : World) → u ≡ after w b zh h → v ≡ after u b zl l → x ≡ after w b zl l
    → y ≡ after x b zh h → after (after w b zl l) b zh h ≡ after (after w b zh h) b zl l → y ≡ v
meet b zl zh l h w u v x y eu ev ex ey swapped =
    ey ∙ (ap (λ (z : World). after z b zh h) ex ∙ (swapped ∙ (ap (λ (z : World). after z b zl l) (sym eu) ∙ sym ev)))

module _ (p : Program) (safe : IsSafe p) where
  -- no race
  read-apart : (w : World) (i j : ℕ) → IsReached p w → (i ≡ j → ⊥) → may_step p w i ≡ true → may_step p w j ≡ true
      → IsReadApart (read_in (w.threads j).frames) (write_in (w.threads i).frames)
  read-apart w i j r ne x y = λ q z a c e. safe w r (inr (record {
    writer = i;
    other = j;
    differ = ne;
    writer_may = x;
    other_may = y;
    location = z.0;
    writes = (z.1, write-next (w.threads i).role (w.threads i).frames z c);
    touches =
        inr (subst (λ (l : Location). next (w.threads j) ≡ Some (Label.Read l)) e
        (read-next (w.threads j).role (w.threads j).frames q a));
  }))

  writes-apart : (w : World) (i j : ℕ) → IsReached p w → (i ≡ j → ⊥) → may_step p w i ≡ true → may_step p w j ≡ true
      → AreApart (write_in (w.threads i).frames) (write_in (w.threads j).frames)
  writes-apart w i j r ne x y = λ a c f g e. safe w r (inr (record {
    writer = i;
    other = j;
    differ = ne;
    writer_may = x;
    other_may = y;
    location = a.0;
    writes = (a.1, write-next (w.threads i).role (w.threads i).frames a f);
    touches =
        inl (
          c.1,
          subst (λ (l : Location). next (w.threads j) ≡ Some (Label.Write l c.1)) (sym e)
              (write-next (w.threads j).role (w.threads j).frames c g),
        );
  }))

  able-free : (w : World) (i : ℕ) → IsReached p w → is_able (act p w Free i) ≡ true
      → (v : World) × (act p w Free i ≡ Result.Went v)
  able-free w i r h = able-goes (act p w Free i) h (λ named span e. safe w r (inl (i, named, span, e)))

  -- a step of a lower member behind one of a higher member may come first
  pub step-first : (lo hi b : ℕ) (low : ℤ) (w u v : World) (l h : ℕ) → Stage p lo hi b low Free w → lo ≤ l → l < h → h < hi
      → act p w Free h ≡ Result.Went u → act p u Free l ≡ Result.Went v
      → (x : World) × (act p w Free l ≡ Result.Went x) × (act p x Free h ≡ Result.Went v)
  step-first lo hi b low w u v l h s a c d one two =
      let y : l < hi = omega arith in
      let o : lo ≤ h = omega arith in
      let ne : h ≡ l → ⊥ = (λ (e : h ≡ l). omega (arith, e, c)) in
      let en : l ≡ h → ⊥ = (λ (e : l ≡ h). omega (arith, e, c)) in
      let su = stage-next p lo hi b low Free Free w u h s o d one in
      let eu = stage-after p lo hi b low Free Free w u h s o d one in
      let ev = stage-after p lo hi b low Free Free u v l su a y two in
      let can = able-before p lo hi b low w u l h s su a c d eu (ap is_able two) in
      let gone = able-free w l s.reached can in
      let sx = stage-next p lo hi b low Free Free w gone.0 l s a y gone.1 in
      let ex = stage-after p lo hi b low Free Free w gone.0 l s a y gone.1 in
      let then = able-free gone.0 h sx.reached (able-behind p lo hi b low w gone.0 l h s sx a c d ex (ap is_able one)) in
      let ey = stage-after p lo hi b low Free Free gone.0 then.0 h sx o d then.1 in
      let may = ap is_able one in
      let swapped = after-swap w b (position lo low l) (position lo low h) l h en
      (read-apart w h l s.reached ne may can)
      (read-apart w l h s.reached en can may) (writes-apart w l h s.reached en can may) in
      let same : then.0 ≡ v =
      meet b (position lo low l) (position lo low h) l h w u v gone.0 then.0 eu ev ex ey swapped in
      (gone.0, gone.1, went_same (act p gone.0 Free h) then.0 v then.1 same)
