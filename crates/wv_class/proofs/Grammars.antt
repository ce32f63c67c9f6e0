-- Values and the bytes that spell them: what makes reading from left to right find the first fault, and that one item behind
-- another keeps it.
use Rattle.std.proofs.Common.{◌≡◌, ℕ, ◌+◌, ◌-◌, ◌<◌, ◌≤◌, List, [], ◌∷◌, ◌++◌, length, Result, Ok, Err, refl, sym, ap, subst, ◌∙◌, append_assoc, ◌⊎◌, inl, inr, arith}
use Rattle.std.proofs.lemmas.List.{append-nil, length-append}
use Rattle.wv_attr.proofs.Leading.{same_front}
use Rattle.wv_class.specs.declared.stop.Stop.{Stop}
use Rattle.wv_class.specs.declared.stop.Stop.TheVariants as stops
use Rattle.wv_class.specs.Layout.{Begins}
use Rattle.wv_class.specs.Reading.{Taken, Stopped, Reads}

-- ---- two divisions of the same bytes

pub record Inside (front back text rest : List ℕ) : Type 0 where
  pub more : List ℕ
  pub front_is : front ≡ text ++ more
  pub rest_is : rest ≡ more ++ back

pub splits : (front back text rest : List ℕ) → front ++ back ≡ text ++ rest → Inside front back text rest ⊎ Inside text rest front back
splits front back [] rest e = inl (record { more = front; front_is = refl; rest_is = sym e })
splits [] back (x ∷ text) rest e = inr (record { more = x ∷ text; front_is = refl; rest_is = e })
splits (f ∷ front) back (x ∷ text) rest e =
    let head : f ≡ x = cc in
    elim (splits front back text rest cc) [
      | inl i ↦ inl (record { more = i.more; front_is = ap (λ (z : List ℕ). f ∷ z) i.front_is ∙ ap (λ (z : ℕ). z ∷ (text ++ i.more)) head; rest_is = i.rest_is })
      | inr i ↦ inr (record { more = i.more; front_is = ap (λ (z : List ℕ). x ∷ z) i.front_is ∙ ap (λ (z : ℕ). z ∷ (front ++ i.more)) (sym head); rest_is = i.rest_is })
    ]

-- ---- grammars

-- The bytes with which an item begins are those of one value; where values within them are looked at, it is that value for
-- any longer input; and there is an item.
pub record IsGrammar {X : Type 0} (S : ℕ → X → List ℕ → Type 0) : Type 0 where
  pub same : (m n : ℕ) (x y : X) (t u p q : List ℕ) → t ++ p ≡ u ++ q → S m x t → S n y u → (x ≡ y) × (t ≡ u)
  pub full : (n : ℕ) (x : X) (t : List ℕ) → S (length t) x t → S n x t
  pub less : (m n : ℕ) (x : X) (t : List ℕ) → m ≤ n → S n x t → S m x t
  pub value : X
  pub text : List ℕ
  pub some : S 0 value text

-- one item behind another, of which the second is the value
pub record Then {X Y : Type 0} (S : ℕ → X → List ℕ → Type 0) (T : X → ℕ → Y → List ℕ → Type 0) (near : ℕ) (value : Y) (bytes : List ℕ) : Type 0 where
  pub first : X
  pub front : List ℕ
  pub back : List ℕ
  pub parts : bytes ≡ front ++ back
  pub first_is : S near first front
  pub second_is : T first (near - length front) value back

-- the same item, seen as another value
pub record Was {X Z : Type 0} (f : X → Z) (S : ℕ → X → List ℕ → Type 0) (near : ℕ) (value : Z) (bytes : List ℕ) : Type 0 where
  pub from : X
  pub is : value ≡ f from
  pub spelled : S near from bytes

-- two descriptions of the same
pub record Alike {X : Type 0} (S T : ℕ → X → List ℕ → Type 0) : Type 0 where
  pub there : (near : ℕ) (x : X) (t : List ℕ) → S near x t → T near x t
  pub back : (near : ℕ) (x : X) (t : List ℕ) → T near x t → S near x t

-- ---- the same by other words

module _ {X : Type 0} {S T : ℕ → X → List ℕ → Type 0} (a : Alike S T) where
  pub alike_grammar : IsGrammar S → IsGrammar T
  alike_grammar g = record {
    same = λ m n x y t u p q e b c. g.same m n x y t u p q e (a.back m x t b) (a.back n y u c);
    full = λ n x t b. a.there n x t (g.full n x t (a.back (length t) x t b));
    less = λ m n x t le b. a.there m x t (g.less m n x t le (a.back n x t b));
    value = g.value;
    text = g.text;
    some = a.there 0 g.value g.text g.some;
  }

  begins_there : (front : List ℕ) → Begins S front → Begins T front
  begins_there front b = record { value = b.value; more = b.more; spelled = a.there (length front) b.value (front ++ b.more) b.spelled }

  begins_back : (front : List ℕ) → Begins T front → Begins S front
  begins_back front b = record { value = b.value; more = b.more; spelled = a.back (length front) b.value (front ++ b.more) b.spelled }

  pub alike_takes : (bytes : List ℕ) (x : X) (rest : List ℕ) → Taken S bytes x rest → Taken T bytes x rest
  alike_takes bytes x rest t = record { text = t.text; parts = t.parts; spelled = a.there (length t.text) x t.text t.spelled }

  pub alike_stops : (bytes : List ℕ) (left : ℕ) → Stopped S bytes left → Stopped T bytes left
  alike_stops bytes left s = record {
    front = s.front;
    back = s.back;
    parts = s.parts;
    place = s.place;
    begun = begins_there s.front s.begun;
    none = λ b others e begins. s.none b others e (begins_back (s.front ++ b ∷ []) begins);
    no_item = λ value text rest e spelled. s.no_item value text rest e (a.back (length text) value text spelled);
  }

  pub alike_reads : {V : Type 0} (view : V → X × List ℕ) (bytes : List ℕ) (result : Result V Stop) → Reads view S bytes result → Reads view T bytes result
  alike_reads view bytes (Ok v) r = alike_takes bytes (view v).0 (view v).1 r
  alike_reads view bytes (Err (stops.Left left)) r = alike_stops bytes left r
  alike_reads view bytes (Err stops.Memory) r = tt

-- ---- seen as another value

module _ {X Z : Type 0} (f : X → Z) (S : ℕ → X → List ℕ → Type 0) where
  pub was_grammar : IsGrammar S → IsGrammar (Was f S)
  was_grammar g = record {
    same = λ m n x y t u p q e b c. let s = g.same m n b.from c.from t u p q e b.spelled c.spelled in (b.is ∙ ap f s.0 ∙ sym c.is, s.1);
    full = λ n x t b. record { from = b.from; is = b.is; spelled = g.full n b.from t b.spelled };
    less = λ m n x t le b. record { from = b.from; is = b.is; spelled = g.less m n b.from t le b.spelled };
    value = f g.value;
    text = g.text;
    some = record { from = g.value; is = refl; spelled = g.some };
  }

  pub was_takes : (bytes : List ℕ) (x : X) (rest : List ℕ) → Taken S bytes x rest → Taken (Was f S) bytes (f x) rest
  was_takes bytes x rest t = record { text = t.text; parts = t.parts; spelled = record { from = x; is = refl; spelled = t.spelled } }

  pub was_stops : (bytes : List ℕ) (left : ℕ) → Stopped S bytes left → Stopped (Was f S) bytes left
  was_stops bytes left s = record {
    front = s.front;
    back = s.back;
    parts = s.parts;
    place = s.place;
    begun = let b = s.begun in record { value = f b.value; more = b.more; spelled = record { from = b.value; is = refl; spelled = b.spelled } };
    none = λ b others e begins. s.none b others e (let w = begins.spelled in record { value = w.from; more = begins.more; spelled = w.spelled });
    no_item = λ value text rest e spelled. s.no_item spelled.from text rest e spelled.spelled;
  }

-- ---- one behind another

module _ {X Y : Type 0} (S : ℕ → X → List ℕ → Type 0) (T : X → ℕ → Y → List ℕ → Type 0) (g : IsGrammar S) where
  then_front : {near : ℕ} {value : Y} (text p : List ℕ) (a : Then S T near value text) → text ++ p ≡ a.front ++ (a.back ++ p)
  then_front text p a = ap (λ (z : List ℕ). z ++ p) a.parts ∙ append_assoc a.front a.back p

  then_same : ((n : ℕ) (x : X) (t : List ℕ) → S n x t → IsGrammar (T x)) → (m n : ℕ) (x y : Y) (t u p q : List ℕ) → t ++ p ≡ u ++ q → Then S T m x t → Then S T n y u → (x ≡ y) × (t ≡ u)
  then_same h m n x y t u p q e a b =
      let whole : a.front ++ (a.back ++ p) ≡ b.front ++ (b.back ++ q) = sym (then_front t p a) ∙ e ∙ then_front u q b in
      let first = g.same m n a.first b.first a.front b.front (a.back ++ p) (b.back ++ q) whole a.first_is b.first_is in
      let behind : a.back ++ p ≡ b.back ++ q = same_front b.front (a.back ++ p) (b.back ++ q) (ap (λ (z : List ℕ). z ++ (a.back ++ p)) (sym first.1) ∙ whole) in
      let second = (h m a.first a.front a.first_is).same (m - length a.front) (n - length b.front) x y a.back b.back p q behind a.second_is (subst (λ (z : X). T z (n - length b.front) y b.back) (sym first.0) b.second_is) in
      (second.0, a.parts ∙ ap (λ (z : List ℕ). z ++ a.back) first.1 ∙ ap (λ (z : List ℕ). b.front ++ z) second.1 ∙ sym b.parts)

  then_full : ((n : ℕ) (x : X) (t : List ℕ) → S n x t → IsGrammar (T x)) → (n : ℕ) (x : Y) (t : List ℕ) → Then S T (length t) x t → Then S T n x t
  then_full h n x t a =
      let long : length t ≡ length a.front + length a.back = ap length a.parts ∙ length-append a.front a.back in
      let near : S (length a.front) a.first a.front = g.less (length a.front) (length t) a.first a.front (omega (arith, long)) a.first_is in
      record {
        first = a.first;
        front = a.front;
        back = a.back;
        parts = a.parts;
        first_is = g.full n a.first a.front near;
        second_is = (h (length a.front) a.first a.front near).full (n - length a.front) x a.back (subst (λ (k : ℕ). T a.first k x a.back) (omega (arith, long)) a.second_is);
      }

  then_less : ((n : ℕ) (x : X) (t : List ℕ) → S n x t → IsGrammar (T x)) → (m n : ℕ) (x : Y) (t : List ℕ) → m ≤ n → Then S T n x t → Then S T m x t
  then_less h m n x t le a = record {
    first = a.first;
    front = a.front;
    back = a.back;
    parts = a.parts;
    first_is = g.less m n a.first a.front le a.first_is;
    second_is = (h n a.first a.front a.first_is).less (m - length a.front) (n - length a.front) x a.back (omega arith) a.second_is;
  }

  pub then_grammar : ((n : ℕ) (x : X) (t : List ℕ) → S n x t → IsGrammar (T x)) → IsGrammar (Then S T)
  then_grammar h =
      let second = h 0 g.value g.text g.some in
      record {
        same = then_same h;
        full = then_full h;
        less = then_less h;
        value = second.value;
        text = g.text ++ second.text;
        some = record { first = g.value; front = g.text; back = second.text; parts = refl; first_is = g.some; second_is = second.less (0 - length g.text) 0 second.value second.text (omega arith) second.some };
      }

  pub then_takes : (bytes : List ℕ) (x : X) (after : List ℕ) (y : Y) (rest : List ℕ) → Taken S bytes x after → Taken (T x) after y rest → Taken (Then S T) bytes y rest
  then_takes bytes x after y rest t u =
      let sum = length-append t.text u.text in
      record {
        text = t.text ++ u.text;
        parts = t.parts ∙ ap (λ (z : List ℕ). t.text ++ z) u.parts ∙ sym (append_assoc t.text u.text rest);
        spelled = record {
          first = x;
          front = t.text;
          back = u.text;
          parts = refl;
          first_is = g.full (length (t.text ++ u.text)) x t.text t.spelled;
          second_is = subst (λ (k : ℕ). T x k y u.text) (omega (arith, sum)) u.spelled;
        };
      }

  -- where the first stops
  pub first_stops : ((n : ℕ) (x : X) (t : List ℕ) → S n x t → IsGrammar (T x)) → (bytes : List ℕ) (left : ℕ) → Stopped S bytes left → Stopped (Then S T) bytes left
  first_stops h bytes left s = record {
    front = s.front;
    back = s.back;
    parts = s.parts;
    place = s.place;
    begun =
        let b = s.begun in
        let second = h (length s.front) b.value (s.front ++ b.more) b.spelled in
        record {
          value = second.value;
          more = b.more ++ second.text;
          spelled = record {
            first = b.value;
            front = s.front ++ b.more;
            back = second.text;
            parts = sym (append_assoc s.front b.more second.text);
            first_is = b.spelled;
            second_is = second.less (length s.front - length (s.front ++ b.more)) 0 second.value second.text (omega (arith, length-append s.front b.more)) second.some;
          };
        };
    none = λ b others e begins. go b others e begins.spelled (splits (s.front ++ b ∷ []) begins.more begins.spelled.front begins.spelled.back begins.spelled.parts);
    no_item = λ value text rest e spelled.
        let long : length text ≡ length spelled.front + length spelled.back = ap length spelled.parts ∙ length-append spelled.front spelled.back in
        s.no_item spelled.first spelled.front (spelled.back ++ rest) (e ∙ then_front text rest spelled) (g.less (length spelled.front) (length text) spelled.first spelled.front (omega (arith, long)) spelled.first_is);
  }
    where
      go : (b : ℕ) (others : List ℕ) {value : Y} {all : List ℕ} → s.back ≡ b ∷ others → (a : Then S T (length (s.front ++ b ∷ [])) value all) → {more : List ℕ} → Inside (s.front ++ b ∷ []) more a.front a.back ⊎ Inside a.front a.back (s.front ++ b ∷ []) more → ⊥
      go b others e a (inr i) = s.none b others e (record { value = a.first; more = i.more; spelled = subst (S (length (s.front ++ b ∷ [])) a.first) i.front_is a.first_is })
      go b others e a (inl i) =
          let long : length (s.front ++ b ∷ []) ≡ length a.front + length i.more = ap length i.front_is ∙ length-append a.front i.more in
          s.no_item a.first a.front (i.more ++ others)
          (s.parts ∙ ap (λ (z : List ℕ). s.front ++ z) e ∙ sym (append_assoc s.front (b ∷ []) others) ∙ ap (λ (z : List ℕ). z ++ others) i.front_is ∙ append_assoc a.front i.more others)
          (g.less (length a.front) (length (s.front ++ b ∷ [])) a.first a.front (omega (arith, long)) a.first_is)

  -- what is behind the first is the second
  behind_first : {near : ℕ} {value : Y} (x : X) (front rest text p : List ℕ) → S (length front) x front → text ++ p ≡ front ++ rest → (a : Then S T near value text) → (a.front ≡ front) × (rest ≡ a.back ++ p) × T x (near - length front) value a.back
  behind_first {near} {value} x front rest text p f e a =
      let whole : a.front ++ (a.back ++ p) ≡ front ++ rest = sym (then_front text p a) ∙ e in
      let first = g.same near (length front) a.first x a.front front (a.back ++ p) rest whole a.first_is f in
      let behind : rest ≡ a.back ++ p = same_front front rest (a.back ++ p) (sym whole ∙ ap (λ (z : List ℕ). z ++ (a.back ++ p)) first.1) in
      (first.1, behind, subst (λ (z : List ℕ). T x (near - length z) value a.back) first.1 (subst (λ (z : X). T z (near - length a.front) value a.back) first.0 a.second_is))

  -- where the second stops
  pub second_stops : (bytes : List ℕ) (x : X) (after : List ℕ) (left : ℕ) → Taken S bytes x after → Stopped (T x) after left → Stopped (Then S T) bytes left
  second_stops bytes x after left t s = record {
    front = t.text ++ s.front;
    back = s.back;
    parts = t.parts ∙ ap (λ (z : List ℕ). t.text ++ z) s.parts ∙ sym (append_assoc t.text s.front s.back);
    place = s.place;
    begun =
        let b = s.begun in
        record {
          value = b.value;
          more = b.more;
          spelled = record {
            first = x;
            front = t.text;
            back = s.front ++ b.more;
            parts = append_assoc t.text s.front b.more;
            first_is = g.full (length (t.text ++ s.front)) x t.text t.spelled;
            second_is = subst (λ (k : ℕ). T x k b.value (s.front ++ b.more)) (omega (arith, length-append t.text s.front)) b.spelled;
          };
        };
    none = λ b others e begins.
        let a = begins.spelled in
        let all : ((t.text ++ s.front) ++ b ∷ []) ++ begins.more ≡ t.text ++ ((s.front ++ b ∷ []) ++ begins.more) = ap (λ (z : List ℕ). z ++ begins.more) (append_assoc t.text s.front (b ∷ [])) ∙ append_assoc t.text (s.front ++ b ∷ []) begins.more in
        let r = behind_first x t.text ((s.front ++ b ∷ []) ++ begins.more) (((t.text ++ s.front) ++ b ∷ []) ++ begins.more) [] t.spelled (append-nil (((t.text ++ s.front) ++ b ∷ []) ++ begins.more) ∙ all) a in
        let back : a.back ≡ (s.front ++ b ∷ []) ++ begins.more = sym (append-nil a.back) ∙ sym r.1 in
        let near : length ((t.text ++ s.front) ++ b ∷ []) - length t.text ≡ length (s.front ++ b ∷ []) = omega (arith, ap length (append_assoc t.text s.front (b ∷ [])), length-append t.text (s.front ++ b ∷ [])) in
        s.none b others e (record { value = begins.value; more = begins.more; spelled = subst (λ (k : ℕ). T x k begins.value ((s.front ++ b ∷ []) ++ begins.more)) near (subst (T x (length ((t.text ++ s.front) ++ b ∷ []) - length t.text) begins.value) back r.2) });
    no_item = λ value text rest e spelled.
        let r = behind_first x t.text after text rest t.spelled (sym e ∙ t.parts) spelled in
        let long : length text ≡ length t.text + length spelled.back = ap length spelled.parts ∙ length-append spelled.front spelled.back ∙ ap (λ (z : List ℕ). length z + length spelled.back) r.0 in
        s.no_item value spelled.back rest r.1 (subst (λ (k : ℕ). T x k value spelled.back) (omega (arith, long)) r.2);
  }

  -- where the second is what is answered
  pub second_reads : {V : Type 0} (view : V → Y × List ℕ) (bytes : List ℕ) (x : X) (after : List ℕ) (result : Result V Stop) → Taken S bytes x after → Reads view (T x) after result → Reads view (Then S T) bytes result
  second_reads view bytes x after (Ok v) t r = then_takes bytes x after (view v).0 (view v).1 t r
  second_reads view bytes x after (Err (stops.Left left)) t r = second_stops bytes x after left t r
  second_reads view bytes x after (Err stops.Memory) t r = tt
