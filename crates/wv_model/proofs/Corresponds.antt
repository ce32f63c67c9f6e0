-- The law of corresponding machines: a numbered relation gives correspondence for every budget.
use Rattle.std.proofs.Common.{◌≡◌, ℕ, zero, suc, ◌+◌, ◌*◌, ◌≤◌, Option, Some, None, refl, sym, ap, ◌∙◌, subst, arith, inl, inr}
use Rattle.wv_model.specs.Machine.{Machine, advance, after, Ended, run, Begins, Grows}
use Rattle.wv_model.specs.Corresponds.{CorrespondsWithin}
use Rattle.wv_model.specs.Simulates.{Numbered, SimulatesWithin, Follows}
use Rattle.wv_model.proofs.Runs.{same_run, ended_of, advance_ended, advance_going, after_more, stays_ended, grows_between}

module _ (factor : ℕ) {S T Piece Ending : Type 0} (first : Machine S Piece Ending) (second : Machine T Piece Ending) (Related : Numbered S T) (law : SimulatesWithin factor first second Related) where
  -- a state of the first after some steps and one of the second after some are related
  abbrev Joined : ℕ → S → ℕ → T → Type 0
  Joined j s m t = (k : ℕ) × Related k (after first j s) (after second m t)

  -- one step of the first machine stands for one step of the second, or for none
  one_forward : (n : ℕ) (s : S) (t : T) (o : Option Ending) → first.ending s ≡ o → Related n s t → (m : ℕ) × (m ≤ 1) × ((k : ℕ) × Related k (advance first s) (after second m t))
  one_forward n s t (Some e) h r = (0, omega arith, (n, subst (λ x. Related n x t) (sym (advance_ended first s e h)) r))
  one_forward n s t None h r =
      let here = sym (advance_going first s h) in
      let there = sym (advance_going second t (sym (law.same_ending n s t r) ∙ h)) in
      elim (law.moves n s t r h) [
        | inl l ↦ (0, omega arith, (l.0, subst (λ x. Related l.0 x t) here l.2))
        | inr l ↦ (1, omega arith, (l.0, subst (λ x. Related l.0 x (advance second t)) here (subst (λ y. Related l.0 (first.step s) y) there l.1)))
      ]

  forward : (b n : ℕ) (s : S) (t : T) → Related n s t → (m : ℕ) × (m ≤ b) × Joined b s m t
  forward zero n s t r = (0, omega arith, (n, r))
  forward (suc b) n s t r =
      let one = one_forward n s t (first.ending s) refl r in
      let rest = forward b one.2.0 (advance first s) (after second one.0 t) one.2.1 in
      let e = sym (after_more second one.0 rest.0 t) in
      (one.0 + rest.0, omega (arith, one.1, rest.1), (rest.2.0, subst (λ y. Related rest.2.0 (after first b (advance first s)) y) e rest.2.1))

  -- from related states where the second goes on, the first catches up with its next step
  catch_up : (fuel n : ℕ) (s : S) (t : T) → n ≤ fuel → second.ending t ≡ None → Related n s t → Follows (suc n) first second Related s t
  catch_up zero n s t le going r =
      let ended = law.same_ending n s t r ∙ going in
      elim (law.moves n s t r ended) [
        | inl l ↦ absurd (omega (arith, l.1))
        | inr l ↦ record { quiet = 0; few = omega arith; unseen = law.same_trace n s t r; going = ended; number = l.0; related = subst (λ x. Related l.0 x (second.step t)) (sym (advance_going first s ended)) l.1 }
      ]
  catch_up (suc fuel) n s t le going r =
      let ended = law.same_ending n s t r ∙ going in
      let here = sym (advance_going first s ended) in
      elim (law.moves n s t r ended) [
        | inl l ↦
            let f = subst (λ x. Follows (suc l.0) first second Related x t) here (catch_up fuel l.0 (first.step s) t (omega (arith, l.1)) going l.2) in
            record { quiet = suc f.quiet; few = omega (arith, f.few, l.1); unseen = f.unseen; going = f.going; number = f.number; related = f.related }
        | inr l ↦ record { quiet = 0; few = omega arith; unseen = law.same_trace n s t r; going = ended; number = l.0; related = subst (λ x. Related l.0 x (second.step t)) here l.1 }
      ]

  pub follows : (n : ℕ) (s : S) (t : T) → second.ending t ≡ None → Related n s t → Follows factor first second Related s t
  follows n s t going r =
      let f = catch_up n n s t (omega arith) going r in
      record { quiet = f.quiet; few = omega (arith, f.few, law.below n s t r); unseen = f.unseen; going = f.going; number = f.number; related = f.related }

  one_back : (n : ℕ) (s : S) (t : T) (o : Option Ending) → second.ending t ≡ o → Related n s t → (j : ℕ) × (j ≤ factor) × ((k : ℕ) × Related k (after first j s) (advance second t))
  one_back n s t (Some e) h r = (0, omega arith, (n, subst (λ y. Related n s y) (sym (advance_ended second t e h)) r))
  one_back n s t None h r =
      let f = follows n s t h r in
      (suc f.quiet, omega (arith, f.few), (f.number, subst (λ y. Related f.number (after first (suc f.quiet) s) y) (sym (advance_going second t h)) f.related))

  backward : (b n : ℕ) (s : S) (t : T) → Related n s t → (j : ℕ) × (j ≤ factor * b) × Joined j s b t
  backward zero n s t r = (0, omega arith, (n, r))
  backward (suc b) n s t r =
      let one = one_back n s t (second.ending t) refl r in
      let rest = backward b one.2.0 (after first one.0 s) (advance second t) one.2.1 in
      let e = sym (after_more first one.0 rest.0 s) in
      (one.0 + rest.0, omega (arith, one.1, rest.1), (rest.2.0, subst (λ x. Related rest.2.0 x (after second b (advance second t))) e rest.2.1))

  module _ (n : ℕ) (s : S) (t : T) (r : Related n s t) where
    first_ends : (b : ℕ) (e : Ending) → (run first b s).finish ≡ Ended e → run second b t ≡ run first b s
    first_ends b e h =
        let (m, le, (k, joined)) = forward b n s t r in
        let ended = ended_of (first.ending (after first b s)) e h in
        let over = sym (law.same_ending k _ _ joined) ∙ ended in
        let still = stays_ended second m b t e le over in
        same_run second b t first b s (ap second.trace still ∙ sym (law.same_trace k _ _ joined)) (ap second.ending still ∙ sym (law.same_ending k _ _ joined))

    second_ends : (b : ℕ) (e : Ending) → (run second b t).finish ≡ Ended e → run first (factor * (b + 1)) s ≡ run second b t
    second_ends b e h =
        let (j, le, (k, joined)) = backward b n s t r in
        let ended = ended_of (second.ending (after second b t)) e h in
        let over = law.same_ending k _ _ joined ∙ ended in
        let within : j ≤ factor * (b + 1) = omega arith in
        let still = stays_ended first j (factor * (b + 1)) s e within over in
        same_run first (factor * (b + 1)) s second b t (ap first.trace still ∙ law.same_trace k _ _ joined) (ap first.ending still ∙ law.same_ending k _ _ joined)

    first_shows : Grows second → (b : ℕ) → Begins (run first b s).trace (run second b t).trace
    first_shows grows b =
        let (m, le, (k, joined)) = forward b n s t r in
        subst (λ shown. Begins shown (second.trace (after second b t))) (sym (law.same_trace k _ _ joined)) (grows_between second m b t grows le)

    second_shows : Grows first → (b : ℕ) → Begins (run second b t).trace (run first (factor * (b + 1)) s).trace
    second_shows grows b =
        let (j, le, (k, joined)) = backward b n s t r in
        let within : j ≤ factor * (b + 1) = omega arith in
        subst (λ shown. Begins shown (first.trace (after first (factor * (b + 1)) s))) (law.same_trace k _ _ joined) (grows_between first j (factor * (b + 1)) s grows within)

    pub corresponds : Grows first → Grows second → CorrespondsWithin factor first s second t
    corresponds first_grows second_grows =
        record { ends_of_first = first_ends; ends_of_second = second_ends; shown_by_first = first_shows second_grows; shown_by_second = second_shows first_grows }
