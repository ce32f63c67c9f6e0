-- What a reader of items that fill the bytes exactly keeps: what it reads is spelled so and the rest fits behind it, what is spelled
-- so is read again, and where it stops, the bytes before begin what it reads. Some of the bytes may be missing at the end, so many as
-- the first number says; then nothing is read to the end. A reader after another keeps all this.
use Rattle.std.proofs.Common.{◌≡◌, ℕ, suc, ◌+◌, ◌<◌, List, [], ◌∷◌, ◌++◌, length, get_or, Result, Ok, Err, refl, sym, ap, subst, ◌∙◌, append_assoc, arith, ◌⊎◌, inl, inr}
use Rattle.std.proofs.lemmas.List.{append-nil, length-append, get_or-append-add}
use Rattle.wv_pool.specs.Reading.{◌>>=◌}

abbrev pub IsBytes : List ℕ → Type 0
IsBytes bytes = (i : ℕ) → get_or bytes i 0 < 256

pub IsBytes-rest : (b : ℕ) (bytes : List ℕ) → IsBytes (b ∷ bytes) → IsBytes bytes
IsBytes-rest b bytes h i = h (suc i)

pub IsBytes-behind : (front back : List ℕ) → IsBytes (front ++ back) → IsBytes back
IsBytes-behind front back h i = rw (← get_or-append-add front back i 0) (h (length front + i))

pub ok_is : {A B : Type 0} (x y : A) → Path (Result A B) (Ok x) (Ok y) → x ≡ y
ok_is x y e = cc

-- an item and what is behind it can fill so many bytes
pub record Fill {A : Type 0} (S : A → List ℕ → Type 0) (Q : A → ℕ → Type 0) (n : ℕ) : Type 0 where
  pub value : A
  pub text : List ℕ
  pub more : ℕ
  pub spelled : S value text
  pub rest : Q value more
  pub sum : n ≡ length text + more

-- the bytes begin an item, which with what is behind it fills them and so many more
pub record Begun {A : Type 0} (S : A → List ℕ → Type 0) (Q : A → ℕ → Type 0) (front : List ℕ) (n : ℕ) : Type 0 where
  pub value : A
  pub more : List ℕ
  pub extra : ℕ
  pub spelled : S value (front ++ more)
  pub rest : Q value extra
  pub sum : n ≡ length more + extra

-- the bytes begin an item up to a byte with which nothing is read, whatever as many bytes stand behind it or are missing
pub record Broken {A : Type 0} (read : ℕ → List ℕ → Result (A × List ℕ) ℕ) (S : A → List ℕ → Type 0) (Q : A → ℕ → Type 0) (missing : ℕ) (bytes : List ℕ) (left : ℕ) : Type 0 where
  pub front : List ℕ
  pub byte : ℕ
  pub rest : List ℕ
  pub parts : bytes ≡ front ++ byte ∷ rest
  pub place : left ≡ suc (length rest)
  pub begun : Begun S Q front (suc (length rest + missing))
  pub stays : (others : List ℕ) (more : ℕ) → length others + more ≡ length rest + missing → read more (front ++ byte ∷ others) ≡ Err (suc (length others))

-- the bytes begin an item, and end where others are missing
pub record Ended {A : Type 0} (S : A → List ℕ → Type 0) (Q : A → ℕ → Type 0) (missing : ℕ) (bytes : List ℕ) (left : ℕ) : Type 0 where
  pub place : left ≡ 0
  pub some : 0 < missing
  pub begun : Begun S Q bytes missing

abbrev pub Stopped : {A : Type 0} → (ℕ → List ℕ → Result (A × List ℕ) ℕ) → (A → List ℕ → Type 0) → (A → ℕ → Type 0) → ℕ → List ℕ → ℕ → Type 0
Stopped read S Q missing bytes left = Broken read S Q missing bytes left ⊎ Ended S Q missing bytes left

-- what was read
pub record Taken {A : Type 0} (S : A → List ℕ → Type 0) (Q : A → ℕ → Type 0) (missing : ℕ) (bytes : List ℕ) (x : A × List ℕ) : Type 0 where
  pub text : List ℕ
  pub parts : bytes ≡ text ++ x.1
  pub spelled : S x.0 text
  pub rest : Q x.0 (length x.1 + missing)

-- A reader of what is spelled by S, behind which Q fits; P fits in all.
pub record Reads {A : Type 0} (read : ℕ → List ℕ → Result (A × List ℕ) ℕ) (S : A → List ℕ → Type 0) (P : ℕ → Type 0) (Q : A → ℕ → Type 0) : Type 0 where
  pub takes : (missing : ℕ) (bytes : List ℕ) (x : A × List ℕ) → IsBytes bytes → P (length bytes + missing) → read missing bytes ≡ Ok x → Taken S Q missing bytes x
  pub again : (missing : ℕ) (value : A) (text rest : List ℕ) → S value text → Q value (length rest + missing) → read missing (text ++ rest) ≡ Ok (value, rest)
  pub stops : (missing : ℕ) (bytes : List ℕ) (left : ℕ) → IsBytes bytes → P (length bytes + missing) → read missing bytes ≡ Err left → Stopped read S Q missing bytes left
  pub there : (n : ℕ) → P n → Fill S Q n
  pub back : (value : A) (text : List ℕ) (m : ℕ) → S value text → Q value m → P (length text + m)

-- the same in all
pub resized : {A : Type 0} {read : ℕ → List ℕ → Result (A × List ℕ) ℕ} {S : A → List ℕ → Type 0} {Q : A → ℕ → Type 0} (P R : ℕ → Type 0) → ((n : ℕ) → R n → P n) → ((n : ℕ) → P n → R n) → Reads read S P Q → Reads read S R Q
resized P R to from r = record {
  takes = λ missing bytes x fits p e. r.takes missing bytes x fits (to (length bytes + missing) p) e;
  again = r.again;
  stops = λ missing bytes left fits p e. r.stops missing bytes left fits (to (length bytes + missing) p) e;
  there = λ n p. r.there n (to n p);
  back = λ value text m s q. from (length text + m) (r.back value text m s q);
}

begun_renamed : {A : Type 0} {Q : A → ℕ → Type 0} (S T : A → List ℕ → Type 0) → ((value : A) (text : List ℕ) → S value text → T value text) → (front : List ℕ) (n : ℕ) → Begun S Q front n → Begun T Q front n
begun_renamed S T to front n b = record { value = b.value; more = b.more; extra = b.extra; spelled = to b.value (front ++ b.more) b.spelled; rest = b.rest; sum = b.sum }

-- the same by other words
pub renamed : {A : Type 0} {read : ℕ → List ℕ → Result (A × List ℕ) ℕ} {P : ℕ → Type 0} {Q : A → ℕ → Type 0} (S T : A → List ℕ → Type 0) → ((value : A) (text : List ℕ) → S value text → T value text) → ((value : A) (text : List ℕ) → T value text → S value text) → Reads read S P Q → Reads read T P Q
renamed {A} {read} {P} {Q} S T to from r = record {
  takes = λ missing bytes x fits p e. let t = r.takes missing bytes x fits p e in record { text = t.text; parts = t.parts; spelled = to x.0 t.text t.spelled; rest = t.rest };
  again = λ missing value text rest s q. r.again missing value text rest (from value text s) q;
  stops = λ missing bytes left fits p e. elim (r.stops missing bytes left fits p e) [
    | inl d ↦ inl (record {
      front = d.front;
      byte = d.byte;
      rest = d.rest;
      parts = d.parts;
      place = d.place;
      stays = d.stays;
      begun = begun_renamed S T to d.front (suc (length d.rest + missing)) d.begun;
    })
    | inr d ↦ inr (record { place = d.place; some = d.some; begun = begun_renamed S T to bytes missing d.begun })
  ];
  there = λ n p. let f = r.there n p in record { value = f.value; text = f.text; more = f.more; spelled = to f.value f.text f.spelled; rest = f.rest; sum = f.sum };
  back = λ value text m s q. r.back value text m (from value text s) q;
}

-- a value that needs no bytes
pub done : {A : Type 0} (value : A) (Q : ℕ → Type 0) → Reads (λ missing bytes. Ok (value, bytes)) (λ other text. (other ≡ value) × (text ≡ [])) Q (λ _. Q)
done {A} value Q = record {
  takes = λ missing bytes x fits p e.
      let same : (value, bytes) ≡ x = ok_is (value, bytes) x e in
      record { text = []; parts = ap (λ (y : A × List ℕ). y.1) same; spelled = (ap (λ (y : A × List ℕ). y.0) (sym same), refl); rest = subst (λ (y : A × List ℕ). Q (length y.1 + missing)) same p };
  again = λ missing other text rest s q. rw (s.0, s.1) refl;
  stops = λ missing bytes left fits p e. absurd cc;
  there = λ n q. record { value = value; text = []; more = n; spelled = (refl, refl); rest = q; sum = omega arith };
  back = λ other text m s q. subst Q (omega (arith, ap length s.1)) q;
}

-- one text behind another
pub record Then {A B : Type 0} (S : A → List ℕ → Type 0) (T : A → B → List ℕ → Type 0) (value : B) (text : List ℕ) : Type 0 where
  pub first : A
  pub front : List ℕ
  pub back : List ℕ
  pub parts : text ≡ front ++ back
  pub first_is : S first front
  pub second_is : T first value back

pub bind_ok : {A B : Type 0} (r : Result A ℕ) (f : A → Result B ℕ) (y : B) → (r >>= f) ≡ Ok y → (x : A) × (r ≡ Ok x) × (f x ≡ Ok y)
bind_ok (Ok x) f y e = (x, refl, e)
bind_ok (Err d) f y e = absurd cc

pub bind_err : {A B : Type 0} (r : Result A ℕ) (f : A → Result B ℕ) (left : ℕ) → (r >>= f) ≡ Err left → (r ≡ Err left) ⊎ ((x : A) × (r ≡ Ok x) × (f x ≡ Err left))
bind_err (Ok x) f left e = inr (x, refl, e)
bind_err (Err d) f left e = inl cc

module _ {A B : Type 0} {read : ℕ → List ℕ → Result (A × List ℕ) ℕ} {S : A → List ℕ → Type 0} {T : A → B → List ℕ → Type 0} {P : ℕ → Type 0} {Q : A → ℕ → Type 0} {R : B → ℕ → Type 0} (next : A → ℕ → List ℕ → Result (B × List ℕ) ℕ) (r : Reads read S P Q) (n : (value : A) → Reads (next value) (T value) (Q value) R) where
  abbrev both : ℕ → List ℕ → Result (B × List ℕ) ℕ
  both missing bytes = read missing bytes >>= λ x. next x.0 missing x.1

  then_takes : (missing : ℕ) (bytes : List ℕ) (y : B × List ℕ) → IsBytes bytes → P (length bytes + missing) → both missing bytes ≡ Ok y → Taken (Then S T) R missing bytes y
  then_takes missing bytes y fits p e =
      let b = bind_ok (read missing bytes) (λ (x : A × List ℕ). next x.0 missing x.1) y e in
      let t = r.takes missing bytes b.0 fits p b.1 in
      let u = (n b.0.0).takes missing b.0.1 y (IsBytes-behind t.text b.0.1 (subst IsBytes t.parts fits)) t.rest b.2 in
      record {
        text = t.text ++ u.text;
        parts = t.parts ∙ ap (λ (z : List ℕ). t.text ++ z) u.parts ∙ sym (append_assoc t.text u.text y.1);
        spelled = record { first = b.0.0; front = t.text; back = u.text; parts = refl; first_is = t.spelled; second_is = u.spelled };
        rest = u.rest;
      }

  then_again : (missing : ℕ) (value : B) (text rest : List ℕ) → Then S T value text → R value (length rest + missing) → both missing (text ++ rest) ≡ Ok (value, rest)
  then_again missing value text rest s q =
      let e : text ++ rest ≡ s.front ++ (s.back ++ rest) = ap (λ (z : List ℕ). z ++ rest) s.parts ∙ append_assoc s.front s.back rest in
      let fits : Q s.first (length (s.back ++ rest) + missing) = subst (Q s.first) (omega (arith, length-append s.back rest)) ((n s.first).back value s.back (length rest + missing) s.second_is q) in
      rw (e, r.again missing s.first s.front (s.back ++ rest) s.first_is fits) ((n s.first).again missing value s.back rest s.second_is q)

  first_begins : (front : List ℕ) (k : ℕ) → Begun S Q front k → Begun (Then S T) R front k
  first_begins front k d =
      let g = (n d.value).there d.extra d.rest in
      record {
        value = g.value;
        more = d.more ++ g.text;
        extra = g.more;
        spelled = record { first = d.value; front = front ++ d.more; back = g.text; parts = sym (append_assoc front d.more g.text); first_is = d.spelled; second_is = g.spelled };
        rest = g.rest;
        sum = omega (arith, d.sum, g.sum, length-append d.more g.text);
      }

  first_stops : (missing : ℕ) (bytes : List ℕ) (left : ℕ) → Stopped read S Q missing bytes left → Stopped both (Then S T) R missing bytes left
  first_stops missing bytes left (inl d) = inl (record {
    front = d.front;
    byte = d.byte;
    rest = d.rest;
    parts = d.parts;
    place = d.place;
    begun = first_begins d.front (suc (length d.rest + missing)) d.begun;
    stays = λ others more len. rw (d.stays others more len) refl;
  })
  first_stops missing bytes left (inr d) = inr (record { place = d.place; some = d.some; begun = first_begins bytes missing d.begun })

  second_begins : (x : A) (text front : List ℕ) (k : ℕ) → S x text → Begun (T x) R front k → Begun (Then S T) R (text ++ front) k
  second_begins x text front k s d = record {
    value = d.value;
    more = d.more;
    extra = d.extra;
    spelled = record { first = x; front = text; back = front ++ d.more; parts = append_assoc text front d.more; first_is = s; second_is = d.spelled };
    rest = d.rest;
    sum = d.sum;
  }

  second_stops : (missing : ℕ) (bytes : List ℕ) (left : ℕ) (x : A × List ℕ) → Taken S Q missing bytes x → Stopped (next x.0) (T x.0) R missing x.1 left → Stopped both (Then S T) R missing bytes left
  second_stops missing bytes left x t (inl d) =
      let sizes : length x.1 ≡ length d.front + suc (length d.rest) = ap length d.parts ∙ length-append d.front (d.byte ∷ d.rest) in
      inl (record {
        front = t.text ++ d.front;
        byte = d.byte;
        rest = d.rest;
        parts = t.parts ∙ ap (λ (z : List ℕ). t.text ++ z) d.parts ∙ sym (append_assoc t.text d.front (d.byte ∷ d.rest));
        place = d.place;
        begun = second_begins x.0 t.text d.front (suc (length d.rest + missing)) t.spelled d.begun;
        stays = λ others more len.
            let same : length x.1 + missing ≡ length (d.front ++ d.byte ∷ others) + more = omega (arith, sizes, len, length-append d.front (d.byte ∷ others)) in
            let fits : Q x.0 (length (d.front ++ d.byte ∷ others) + more) = subst (Q x.0) same t.rest in
            rw (append_assoc t.text d.front (d.byte ∷ others), r.again more x.0 t.text (d.front ++ d.byte ∷ others) t.spelled fits) (d.stays others more len);
      })
  second_stops missing bytes left x t (inr d) = inr (record { place = d.place; some = d.some; begun = subst (λ (z : List ℕ). Begun (Then S T) R z missing) (sym t.parts) (second_begins x.0 t.text x.1 missing t.spelled d.begun) })

  then_stops : (missing : ℕ) (bytes : List ℕ) (left : ℕ) → IsBytes bytes → P (length bytes + missing) → both missing bytes ≡ Err left → Stopped both (Then S T) R missing bytes left
  then_stops missing bytes left fits p e = elim (bind_err (read missing bytes) (λ (x : A × List ℕ). next x.0 missing x.1) left e) [
    | inl first ↦ first_stops missing bytes left (r.stops missing bytes left fits p first)
    | inr second ↦
        let t = r.takes missing bytes second.0 fits p second.1 in
        second_stops missing bytes left second.0 t ((n second.0.0).stops missing second.0.1 left (IsBytes-behind t.text second.0.1 (subst IsBytes t.parts fits)) t.rest second.2)
  ]

  then_there : (k : ℕ) → P k → Fill (Then S T) R k
  then_there k p =
      let f = r.there k p in
      let g = (n f.value).there f.more f.rest in
      record {
        value = g.value;
        text = f.text ++ g.text;
        more = g.more;
        spelled = record { first = f.value; front = f.text; back = g.text; parts = refl; first_is = f.spelled; second_is = g.spelled };
        rest = g.rest;
        sum = omega (arith, f.sum, g.sum, length-append f.text g.text);
      }

  then_back : (value : B) (text : List ℕ) (m : ℕ) → Then S T value text → R value m → P (length text + m)
  then_back value text m s q =
      let inner : Q s.first (length s.back + m) = (n s.first).back value s.back m s.second_is q in
      subst P (omega (arith, ap length s.parts, length-append s.front s.back)) (r.back s.first s.front (length s.back + m) s.first_is inner)

  pub then : Reads both (Then S T) P R
  then = record { takes = then_takes; again = then_again; stops = then_stops; there = then_there; back = then_back }

-- what is read, seen otherwise
abbrev pub Seen : {A B : Type 0} → (A → B) → (A → List ℕ → Type 0) → B → List ℕ → Type 0
Seen {A} f S other text = (value : A) × (other ≡ f value) × S value text

pub seen : {A B : Type 0} {read : ℕ → List ℕ → Result (A × List ℕ) ℕ} {S : A → List ℕ → Type 0} {P : ℕ → Type 0} (Q : ℕ → Type 0) (f : A → B) → Reads read S P (λ _. Q) → Reads (λ missing bytes. read missing bytes >>= λ x. Ok (f x.0, x.1)) (Seen f S) P (λ _. Q)
seen {A} {B} {read} {S} {P} Q f r =
    renamed (Then S (λ value other text. (other ≡ f value) × (text ≡ []))) (Seen f S)
    (λ other text t. (t.first, t.second_is.0, subst (S t.first) (sym (t.parts ∙ ap (λ (z : List ℕ). t.front ++ z) t.second_is.1 ∙ append-nil t.front)) t.first_is))
    (λ other text t. record { first = t.0; front = text; back = []; parts = sym (append-nil text); first_is = t.2; second_is = (t.1, refl) })
    (then {T = λ value other text. (other ≡ f value) × (text ≡ [])} (λ value missing bytes. Ok (f value, bytes)) r (λ value. done (f value) Q))

-- a reader that answers alike
pub alike : {A : Type 0} (read other : ℕ → List ℕ → Result (A × List ℕ) ℕ) {S : A → List ℕ → Type 0} {P : ℕ → Type 0} {Q : A → ℕ → Type 0} → ((missing : ℕ) (bytes : List ℕ) → other missing bytes ≡ read missing bytes) → Reads read S P Q → Reads other S P Q
alike read other same r = record {
  takes = λ missing bytes x fits p e. r.takes missing bytes x fits p (sym (same missing bytes) ∙ e);
  again = λ missing value text rest s q. same missing (text ++ rest) ∙ r.again missing value text rest s q;
  stops = λ missing bytes left fits p e. elim (r.stops missing bytes left fits p (sym (same missing bytes) ∙ e)) [
    | inl d ↦ inl (record { front = d.front; byte = d.byte; rest = d.rest; parts = d.parts; place = d.place; begun = d.begun; stays = λ others more len. same more (d.front ++ d.byte ∷ others) ∙ d.stays others more len })
    | inr d ↦ inr d
  ];
  there = r.there;
  back = r.back;
}
