-- Items one behind the other, so many or with their count.
use Rattle.std.proofs.Common.{◌≡◌, ℕ, zero, suc, ◌+◌, ◌-◌, ◌^◌, ◌<◌, ◌≤◌, List, [], ◌∷◌, ◌++◌, length, Result, Ok, Err, refl, sym, ap, subst, ◌∙◌, append_assoc, arith}
use Rattle.std.proofs.lemmas.List.{append-nil, length-append}
use Rattle.wv_pool.specs.Entries.{number_bytes}
use Rattle.wv_class.specs.declared.stop.Stop.{Stop}
use Rattle.wv_class.specs.Layout.{SpellsAll, none, next, SpellsTable}
use Rattle.wv_class.specs.Numbers.{SpellsShort, SpellsTimes}
use Rattle.wv_class.specs.Reading.{Taken, Stopped, Reads}
use Rattle.wv_class.proofs.Grammars.{IsGrammar, Then, Was, Alike, then_grammar, was_grammar, was_takes, was_stops, alike_grammar, alike_stops, alike_takes, alike_reads, then_takes, first_stops, second_stops, second_reads}
use Rattle.wv_class.proofs.Shorts.{short_grammar}

module _ {X : Type 0} (S : ℕ → X → List ℕ → Type 0) where
  -- ---- the first item and the others

  abbrev With : X → ℕ → ℕ → List X → List ℕ → Type 0
  With x k = Was (λ (xs : List X). x ∷ xs) (SpellsTimes S k)

  abbrev Next : ℕ → ℕ → List X → List ℕ → Type 0
  Next k = Then S (λ x. With x k)

  next_to : (k near : ℕ) (zs : List X) (t : List ℕ) → Next k near zs t → SpellsTimes S (suc k) near zs t
  next_to k near zs t s =
      let w = s.second_is in
      let others = w.spelled in
      record {
        many = ap length w.is ∙ ap suc others.many;
        all = subst (λ (z : List X). SpellsAll S near z t) (sym w.is) (subst (λ (z : List ℕ). SpellsAll S near (s.first ∷ w.from) z) (sym s.parts) (next s.first_is others.all));
      }

  next_from : (k : ℕ) {near : ℕ} {zs : List X} {t : List ℕ} → length zs ≡ suc k → SpellsAll S near zs t → Next k near zs t
  next_from k e none = absurd (omega arith)
  next_from k e (next {near} {x} {xs} {front} {back} s all) = record {
    first = x;
    front = front;
    back = back;
    parts = refl;
    first_is = s;
    second_is = record { from = xs; is = refl; spelled = record { many = omega arith; all = all } };
  }

  next_alike : (k : ℕ) → Alike (Next k) (SpellsTimes S (suc k))
  next_alike k = record { there = next_to k; back = λ near zs t s. next_from k s.many s.all }

  no_items : {near : ℕ} {zs : List X} {t : List ℕ} → length zs ≡ 0 → SpellsAll S near zs t → ([] ≡ zs) × ([] ≡ t)
  no_items e none = (refl, refl)
  no_items e (next s all) = absurd (omega arith)

  none_there : (near : ℕ) → SpellsTimes S 0 near [] []
  none_there near = record { many = refl; all = none }

  none_grammar : IsGrammar (SpellsTimes S 0)
  none_grammar = record {
    same = λ m n x y t u p q e a b. let c = no_items a.many a.all in let d = no_items b.many b.all in (sym c.0 ∙ d.0, sym c.1 ∙ d.1);
    full = λ n x t a. let c = no_items a.many a.all in subst (λ (z : List X). SpellsTimes S 0 n z t) c.0 (subst (λ (z : List ℕ). SpellsTimes S 0 n [] z) c.1 (none_there n));
    less = λ m n x t le a. let c = no_items a.many a.all in subst (λ (z : List X). SpellsTimes S 0 m z t) c.0 (subst (λ (z : List ℕ). SpellsTimes S 0 m [] z) c.1 (none_there m));
    value = [];
    text = [];
    some = none_there 0;
  }

  pub times_grammar : IsGrammar S → (k : ℕ) → IsGrammar (SpellsTimes S k)
  times_grammar g zero = none_grammar
  times_grammar g (suc k) = alike_grammar (next_alike k) (then_grammar S (λ x. With x k) g (λ n x t s. was_grammar (λ (xs : List X). x ∷ xs) (SpellsTimes S k) (times_grammar g k)))

  -- ---- the first items, so many, and the others

  abbrev Behind : List X → ℕ → ℕ → List X → List ℕ → Type 0
  Behind xs k = Was (λ (ys : List X). xs ++ ys) (SpellsTimes S k)

  abbrev Split : ℕ → ℕ → ℕ → List X → List ℕ → Type 0
  Split j k = Then (SpellsTimes S j) (λ xs. Behind xs k)

  all_append : {near : ℕ} {xs : List X} {t : List ℕ} (ys : List X) (u : List ℕ) → SpellsAll S near xs t → SpellsAll S (near - length t) ys u → SpellsAll S near (xs ++ ys) (t ++ u)
  all_append {near} ys u none b = subst (λ (k : ℕ). SpellsAll S k ys u) (omega arith) b
  all_append ys u (next {near} {x} {xs} {front} {back} s all) b =
      let left : near - length (front ++ back) ≡ near - length front - length back = omega (arith, length-append front back) in
      subst (λ (z : List ℕ). SpellsAll S near (x ∷ (xs ++ ys)) z) (sym (append_assoc front back u)) (next s (all_append ys u all (subst (λ (k : ℕ). SpellsAll S k ys u) left b)))

  split_to : (j k near : ℕ) (zs : List X) (t : List ℕ) → Split j k near zs t → SpellsTimes S (j + k) near zs t
  split_to j k near zs t s =
      let first = s.first_is in
      let w = s.second_is in
      let others = w.spelled in
      record {
        many = omega (arith, ap length w.is, length-append s.first w.from, first.many, others.many);
        all = subst (λ (z : List X). SpellsAll S near z t) (sym w.is) (subst (λ (z : List ℕ). SpellsAll S near (s.first ++ w.from) z) (sym s.parts) (all_append w.from s.back first.all others.all));
      }

  split_from : (j k : ℕ) {near : ℕ} {zs : List X} {t : List ℕ} → length zs ≡ j + k → SpellsAll S near zs t → Split j k near zs t
  split_from zero k {near} {zs} {t} e all = record {
    first = [];
    front = [];
    back = t;
    parts = refl;
    first_is = none_there near;
    second_is = record { from = zs; is = refl; spelled = record { many = omega arith; all = subst (λ (i : ℕ). SpellsAll S i zs t) (omega arith) all } };
  }
  split_from (suc j) k e none = absurd (omega arith)
  split_from (suc j) k e (next {near} {x} {xs} {front} {back} s all) =
      let r = split_from j k (omega arith) all in
      let first = r.first_is in
      let w = r.second_is in
      let others = w.spelled in
      record {
        first = x ∷ r.first;
        front = front ++ r.front;
        back = r.back;
        parts = ap (λ (z : List ℕ). front ++ z) r.parts ∙ sym (append_assoc front r.front r.back);
        first_is = record { many = ap suc first.many; all = next s first.all };
        second_is = record {
          from = w.from;
          is = ap (λ (z : List X). x ∷ z) w.is;
          spelled = record { many = others.many; all = subst (λ (i : ℕ). SpellsAll S i w.from r.back) (omega (arith, length-append front r.front)) others.all };
        };
      }

  split_alike : (j k : ℕ) → Alike (Split j k) (SpellsTimes S (j + k))
  split_alike j k = record { there = split_to j k; back = λ near zs t s. split_from j k s.many s.all }

  -- ---- a loop over so many items

  pub none_taken : (bytes : List ℕ) → Taken (SpellsTimes S 0) bytes [] bytes
  none_taken bytes = record { text = []; parts = refl; spelled = none_there 0 }

  one_taken : (bytes : List ℕ) (x : X) (rest : List ℕ) → Taken S bytes x rest → Taken (SpellsTimes S 1) bytes (x ∷ []) rest
  one_taken bytes x rest t = record {
    text = t.text;
    parts = t.parts;
    spelled = record { many = refl; all = subst (λ (z : List ℕ). SpellsAll S (length t.text) (x ∷ []) z) (append-nil t.text) (next t.spelled none) };
  }

  pub one_more : IsGrammar S → (k : ℕ) (bytes : List ℕ) (xs : List X) (rest : List ℕ) (x : X) (after : List ℕ) → Taken (SpellsTimes S k) bytes xs rest → Taken S rest x after → Taken (SpellsTimes S (k + 1)) bytes (xs ++ x ∷ []) after
  one_more g k bytes xs rest x after t u =
      let one = was_takes (λ (ys : List X). xs ++ ys) (SpellsTimes S 1) rest (x ∷ []) after (one_taken rest x after u) in
      alike_takes (split_alike k 1) bytes (xs ++ x ∷ []) after (then_takes (SpellsTimes S k) (λ zs. Behind zs 1) (times_grammar g k) bytes xs rest (xs ++ x ∷ []) after t one)

  pub one_stops : IsGrammar S → (count k : ℕ) (bytes : List ℕ) (xs : List X) (rest : List ℕ) (left : ℕ) → k < count → Taken (SpellsTimes S k) bytes xs rest → Stopped S rest left → Stopped (SpellsTimes S count) bytes left
  one_stops g count k bytes xs rest left lt t s =
      let left_over = count - k - 1 in
      let here = alike_stops (next_alike left_over) rest left (first_stops S (λ x. With x left_over) g (λ n x t s. was_grammar (λ (ys : List X). x ∷ ys) (SpellsTimes S left_over) (times_grammar g left_over)) rest left s) in
      let all = alike_stops (split_alike k (suc left_over)) bytes left (second_stops (SpellsTimes S k) (λ zs. Behind zs (suc left_over)) (times_grammar g k) bytes xs rest left t (was_stops (λ (ys : List X). xs ++ ys) (SpellsTimes S (suc left_over)) rest left here)) in
      subst (λ (i : ℕ). Stopped (SpellsTimes S i) bytes left) (omega arith) all

  -- ---- with their count

  abbrev Counted : ℕ → List X → List ℕ → Type 0
  Counted = Then SpellsShort (SpellsTimes S)

  counted_to : (near : ℕ) (xs : List X) (t : List ℕ) → Counted near xs t → SpellsTable S near xs t
  counted_to near xs t s =
      let items = s.second_is in
      let wide : length s.front ≡ 2 = ap length s.first_is.1 in
      record {
        few = subst (λ (k : ℕ). k < 2 ^ 16) (sym items.many) s.first_is.0;
        items = s.back;
        all = subst (λ (k : ℕ). SpellsAll S (near - k) xs s.back) wide items.all;
        spelled = s.parts ∙ ap (λ (z : List ℕ). z ++ s.back) (s.first_is.1 ∙ ap number_bytes (sym items.many));
      }

  counted_from : (near : ℕ) (xs : List X) (t : List ℕ) → SpellsTable S near xs t → Counted near xs t
  counted_from near xs t s = record {
    first = length xs;
    front = number_bytes (length xs);
    back = s.items;
    parts = s.spelled;
    first_is = (s.few, refl);
    second_is = record { many = refl; all = s.all };
  }

  counted : Alike Counted (SpellsTable S)
  counted = record { there = counted_to; back = counted_from }

  pub table_grammar : IsGrammar S → IsGrammar (SpellsTable S)
  table_grammar g = alike_grammar counted (then_grammar SpellsShort (SpellsTimes S) short_grammar (λ n k t s. times_grammar g k))

  pub count_stops : IsGrammar S → (bytes : List ℕ) (left : ℕ) → Stopped SpellsShort bytes left → Stopped (SpellsTable S) bytes left
  count_stops g bytes left s = alike_stops counted bytes left (first_stops SpellsShort (SpellsTimes S) short_grammar (λ n k t s. times_grammar g k) bytes left s)

  pub table_reads : {V : Type 0} (view : V → List X × List ℕ) (bytes : List ℕ) (count : ℕ) (rest : List ℕ) (result : Result V Stop) → Taken SpellsShort bytes count rest → Reads view (SpellsTimes S count) rest result → Reads view (SpellsTable S) bytes result
  table_reads view bytes count rest result t r = alike_reads counted view bytes result (second_reads SpellsShort (SpellsTimes S) short_grammar view bytes count rest result t r)
