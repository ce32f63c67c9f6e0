-- Runs of a machine: more steps, ended states, and what was shown.
use Rattle.std.proofs.Common.{◌≡◌, ℕ, zero, suc, ◌+◌, ◌-◌, ◌*◌, ◌≤◌, List, [], ◌++◌, Option, Some, None, refl, sym, ap, ◌∙◌, subst, arith, append_assoc, zero-add}
use Rattle.std.proofs.lemmas.List.{append-nil}
use Rattle.wv_model.specs.Machine.{Machine, unless_ended, advance, after, Ended, finish_of, run, Begins, Grows}
use Rattle.wv_model.specs.Corresponds.{Corresponds, EndsAlike, steps_for_one}

pub begins_itself : {Piece : Type 0} (front : List Piece) → Begins front front
begins_itself front = ([], sym (append-nil front))

pub begins_on : {Piece : Type 0} (a b c : List Piece) → Begins a b → Begins b c → Begins a c
begins_on a b c (more, e) (rest, f) = (more ++ rest, f ∙ ap (λ l. l ++ rest) e ∙ append_assoc a more rest)

pub same_with_more : {Piece : Type 0} (a b x y : List Piece) → a ≡ b → x ≡ y → a ++ x ≡ b ++ y
same_with_more a b x y e f = ap (λ l. l ++ x) e ∙ ap (λ l. b ++ l) f

pub ended_of : {Ending : Type 0} (o : Option Ending) (ending : Ending) → finish_of o ≡ Ended ending → o ≡ Some ending
ended_of (Some other) ending h = cc
ended_of None ending h = cc

pub same_run : {State Other Piece Ending : Type 0} (m : Machine State Piece Ending) (n : ℕ) (s : State) (o : Machine Other Piece Ending) (k : ℕ) (t : Other) → m.trace (after m n s) ≡ o.trace (after o k t) → m.ending (after m n s) ≡ o.ending (after o k t) → run m n s ≡ run o k t
same_run m n s o k t e f = cc (e, ap finish_of f)

module _ {State Piece Ending : Type 0} (m : Machine State Piece Ending) where
  pub advance_ended : (s : State) (e : Ending) → m.ending s ≡ Some e → advance m s ≡ s
  advance_ended s e h = ap (λ o. unless_ended o s (m.step s)) h

  pub advance_going : (s : State) → m.ending s ≡ None → advance m s ≡ m.step s
  advance_going s h = ap (λ o. unless_ended o s (m.step s)) h

  pub after_more : (a b : ℕ) (s : State) → after m (a + b) s ≡ after m b (after m a s)
  after_more zero b s = ap (λ n. after m n s) (zero-add b)
  after_more (suc a) b s =
      let e : suc a + b ≡ suc (a + b) = omega arith in
      ap (λ n. after m n s) e ∙ after_more a b (advance m s)

  pub after_rest : (a b : ℕ) (s : State) → a ≤ b → after m b s ≡ after m (b - a) (after m a s)
  after_rest a b s h =
      let e : b ≡ a + (b - a) = omega arith in
      ap (λ n. after m n s) e ∙ after_more a (b - a) s

  stays : (n : ℕ) (s : State) (e : Ending) → m.ending s ≡ Some e → after m n s ≡ s
  stays zero s e h = refl
  stays (suc n) s e h = ap (after m n) (advance_ended s e h) ∙ stays n s e h

  pub stays_ended : (a b : ℕ) (s : State) (e : Ending) → a ≤ b → m.ending (after m a s) ≡ Some e → after m b s ≡ after m a s
  stays_ended a b s e h ended = after_rest a b s h ∙ stays (b - a) (after m a s) e ended

  grows_unless : (o : Option Ending) (s : State) → Grows m → Begins (m.trace s) (m.trace (unless_ended o s (m.step s)))
  grows_unless (Some e) s grows = begins_itself (m.trace s)
  grows_unless None s grows = grows s

  grows_after : (n : ℕ) (s : State) → Grows m → Begins (m.trace s) (m.trace (after m n s))
  grows_after zero s grows = begins_itself (m.trace s)
  grows_after (suc n) s grows =
      begins_on _ _ _ (grows_unless (m.ending s) s grows) (grows_after n (advance m s) grows)

  pub grows_between : (a b : ℕ) (s : State) → Grows m → a ≤ b → Begins (m.trace (after m a s)) (m.trace (after m b s))
  grows_between a b s grows h =
      subst (λ t. Begins (m.trace (after m a s)) (m.trace t)) (sym (after_rest a b s h)) (grows_after (b - a) (after m a s) grows)

  pub longer_shows : Grows m → (n more : ℕ) (s : State) → Begins (run m n s).trace (run m (n + more) s).trace
  longer_shows grows n more s = grows_between n (n + more) s grows (omega arith)

  pub longer_stays : (n more : ℕ) (s : State) (e : Ending) → (run m n s).finish ≡ Ended e → run m (n + more) s ≡ run m n s
  longer_stays n more s e h =
      let still = stays_ended n (n + more) s e (omega arith) (ended_of (m.ending (after m n s)) e h) in
      same_run m (n + more) s m n s (ap m.trace still) (ap m.ending still)

-- machines that correspond have the same runs among those that end
pub ends_alike : {S T Piece Ending : Type 0} (first : Machine S Piece Ending) (second : Machine T Piece Ending) (s : S) (t : T) → Corresponds first s second t → EndsAlike first s second t
ends_alike first second s t law seen e h = (
  λ f. (f.0, law.ends_of_first f.0 e (ap (λ r. r.finish) f.1 ∙ h) ∙ f.1),
  λ f. (steps_for_one * (f.0 + 1), law.ends_of_second f.0 e (ap (λ r. r.finish) f.1 ∙ h) ∙ f.1),
)
