-- The law of corresponding machines for schedules: each schedule of either machine has one of the other.
use Rattle.std.proofs.Common.{◌≡◌, ℕ, zero, suc, ◌*◌, ◌≤◌, List, [], ◌∷◌, ◌++◌, length, Option, Some, None, refl, sym, ap, ◌∙◌, subst, arith, inl, inr, length-append}
use Rattle.wv_model.specs.Machine.{unless_ended}
use Rattle.wv_model.specs.Schedules.{Threaded, advance_thread, follow, LooksSame, SchedulesCorrespond, NumberedEach, MatchesOf, SimulatesEach}

module _ {State Piece Ending : Type 0} (m : Threaded State Piece Ending) where
  thread_ended : (i : ℕ) (s : State) (e : Ending) → m.ending i s ≡ Some e → advance_thread m i s ≡ s
  thread_ended i s e h = ap (λ o. unless_ended o s (m.step i s)) h

  thread_going : (i : ℕ) (s : State) → m.ending i s ≡ None → advance_thread m i s ≡ m.step i s
  thread_going i s h = ap (λ o. unless_ended o s (m.step i s)) h

  follow_more : (a b : List ℕ) (s : State) → follow m (a ++ b) s ≡ follow m b (follow m a s)
  follow_more [] b s = refl
  follow_more (i ∷ a) b s = follow_more a b (advance_thread m i s)

module _ (factor : ℕ) {S T Piece Ending : Type 0} (first : Threaded S Piece Ending) (second : Threaded T Piece Ending) (Related : NumberedEach S T) (law : SimulatesEach factor first second Related) where
  -- some numbers relate the two states
  abbrev Joined : S → T → Type 0
  Joined s t = (numbers : ℕ → ℕ) × Related numbers s t

  looks_same : (s : S) (t : T) → Joined s t → LooksSame first s second t
  looks_same s t (numbers, r) = record { same_trace = law.same_trace numbers s t r; same_endings = law.same_ending numbers s t r }

  -- an entry of the first machine stands for the same entry of the second, or for none
  one_forward : (i : ℕ) (numbers : ℕ → ℕ) (s : S) (t : T) (o : Option Ending) → first.ending i s ≡ o → Related numbers s t → (turns : List ℕ) × (length turns ≤ 1) × Joined (advance_thread first i s) (follow second turns t)
  one_forward i numbers s t (Some e) h r =
      ([], omega arith, (numbers, subst (λ x. Related numbers x t) (sym (thread_ended first i s e h)) r))
  one_forward i numbers s t None h r =
      let here = sym (thread_going first i s h) in
      let there = sym (thread_going second i t (sym (law.same_ending numbers s t r i) ∙ h)) in
      elim (law.moves numbers s t r i h) [
        | inl l ↦ ([], omega arith, (l.0, subst (λ x. Related l.0 x t) here l.2))
        | inr l ↦ (i ∷ [], omega arith, (l.0, subst (λ x. Related l.0 x (advance_thread second i t)) here (subst (λ y. Related l.0 (first.step i s) y) there l.1)))
      ]

  to_second : (schedule : List ℕ) (s : S) (t : T) → Joined s t → (other : List ℕ) × (length other ≤ length schedule) × Joined (follow first schedule s) (follow second other t)
  to_second [] s t joined = ([], omega arith, joined)
  to_second (i ∷ schedule) s t (numbers, r) =
      let one = one_forward i numbers s t (first.ending i s) refl r in
      let rest = to_second schedule (advance_thread first i s) (follow second one.0 t) one.2 in
      let e = sym (follow_more second one.0 rest.0 t) in
      (one.0 ++ rest.0, omega (arith, one.1, rest.1, length-append one.0 rest.0), subst (λ y. Joined (follow first schedule (advance_thread first i s)) y) e rest.2)

  -- entries of one thread of the first machine after which it stands where the second's next step leads
  CatchesUp : ℕ → ℕ → S → T → Type 0
  CatchesUp most i s t = (turns : List ℕ) × (length turns ≤ most) × Joined (follow first turns s) (second.step i t)

  last_turn : (i most : ℕ) (s : S) (t : T) → first.ending i s ≡ None → MatchesOf i first second Related s t → CatchesUp (suc most) i s t
  unfolding CatchesUp
  last_turn i most s t going (others, r) =
      (i ∷ [], omega arith, (others, subst (λ x. Related others x (second.step i t)) (sym (thread_going first i s going)) r))

  catch_up : (fuel i : ℕ) (numbers : ℕ → ℕ) (s : S) (t : T) → numbers i ≤ fuel → second.ending i t ≡ None → Related numbers s t → CatchesUp (suc fuel) i s t
  unfolding CatchesUp
  catch_up zero i numbers s t le going r =
      let here = law.same_ending numbers s t r i ∙ going in
      elim (law.moves numbers s t r i here) [
        | inl l ↦ absurd (omega (arith, l.1))
        | inr l ↦ last_turn i zero s t here l
      ]
  catch_up (suc fuel) i numbers s t le going r =
      let here = law.same_ending numbers s t r i ∙ going in
      elim (law.moves numbers s t r i here) [
        | inl l ↦
            let rest = catch_up fuel i l.0 (first.step i s) t (omega (arith, l.1)) going l.2 in
            (i ∷ rest.0, omega (arith, rest.1), subst (λ x. Joined (follow first rest.0 x) (second.step i t)) (sym (thread_going first i s here)) rest.2)
        | inr l ↦ last_turn i (suc fuel) s t here l
      ]

  one_back : (i : ℕ) (numbers : ℕ → ℕ) (s : S) (t : T) (o : Option Ending) → second.ending i t ≡ o → Related numbers s t → (turns : List ℕ) × (length turns ≤ factor) × Joined (follow first turns s) (advance_thread second i t)
  unfolding CatchesUp
  one_back i numbers s t (Some e) h r =
      ([], omega arith, (numbers, subst (λ y. Related numbers s y) (sym (thread_ended second i t e h)) r))
  one_back i numbers s t None h r =
      let (turns, few, joined) = catch_up (numbers i) i numbers s t (omega arith) h r in
      (turns, omega (arith, few, law.below numbers s t r i), subst (λ y. Joined (follow first turns s) y) (sym (thread_going second i t h)) joined)

  to_first : (schedule : List ℕ) (s : S) (t : T) → Joined s t → (other : List ℕ) × (length other ≤ factor * length schedule) × Joined (follow first other s) (follow second schedule t)
  to_first [] s t joined = ([], omega arith, joined)
  to_first (i ∷ schedule) s t (numbers, r) =
      let one = one_back i numbers s t (second.ending i t) refl r in
      let rest = to_first schedule (follow first one.0 s) (advance_thread second i t) one.2 in
      let e = sym (follow_more first one.0 rest.0 s) in
      (one.0 ++ rest.0, omega (arith, one.1, rest.1, length-append one.0 rest.0), subst (λ x. Joined x (follow second schedule (advance_thread second i t))) e rest.2)

  pub schedules_correspond : (numbers : ℕ → ℕ) (s : S) (t : T) → Related numbers s t → SchedulesCorrespond factor first s second t
  schedules_correspond numbers s t r =
      record {
        to_second = λ schedule. let (other, few, joined) = to_second schedule s t (numbers, r) in (other, few, looks_same _ _ joined);
        to_first = λ schedule. let (other, few, joined) = to_first schedule s t (numbers, r) in (other, few, looks_same _ _ joined);
      }
