-- What a reader keeps: what it reads is spelled so, what is spelled so is read again, and where it stops,
-- the bytes before begin what it reads. A reader after another keeps it too.
use Rattle.std.proofs.Common.{◌≡◌, ℕ, suc, ◌+◌, ◌<◌, List, [], ◌∷◌, ◌++◌, length, get_or, Result, Ok, Err, refl, sym, ap, subst, ◌∙◌, append_assoc, ◌⊎◌, inl, inr, ◌^◌, Option, Some, None}
use Rattle.std.proofs.lemmas.List.{append-nil, get_or-append-add}
use Rattle.wv_insn.specs.Reading.{◌>>=◌}

abbrev pub IsBytes : List ℕ → Type 0
IsBytes bytes = (i : ℕ) → get_or bytes i 0 < 256

pub IsBytes-rest : (b : ℕ) (bytes : List ℕ) → IsBytes (b ∷ bytes) → IsBytes bytes
IsBytes-rest b bytes h i = h (suc i)

pub IsBytes-behind : (front back : List ℕ) → IsBytes (front ++ back) → IsBytes back
IsBytes-behind front back h i = rw (← get_or-append-add front back i 0) (h (length front + i))

pub ok_is : {A B : Type 0} (x y : A) → Path (Result A B) (Ok x) (Ok y) → x ≡ y
ok_is x y e = cc

-- the bytes end, and could go on
pub record Ended {A : Type 0} (S : A → List ℕ → Type 0) (bytes : List ℕ) (left : ℕ) : Type 0 where
  pub nothing : left ≡ 0
  pub more : List ℕ
  pub value : A
  pub whole : S value (bytes ++ more)

-- they begin what is read up to a byte with which nothing does, however it goes on
pub record Broken {A : Type 0} (read : List ℕ → Result (A × List ℕ) ℕ) (S : A → List ℕ → Type 0) (bytes : List ℕ) (left : ℕ) : Type 0 where
  pub front : List ℕ
  pub byte : ℕ
  pub rest : List ℕ
  pub parts : bytes ≡ front ++ byte ∷ rest
  pub place : left ≡ suc (length rest)
  pub more : List ℕ
  pub value : A
  pub whole : S value (front ++ more)
  pub stays : (others : List ℕ) → read (front ++ byte ∷ others) ≡ Err (suc (length others))

pub record Reads {A : Type 0} (read : List ℕ → Result (A × List ℕ) ℕ) (S : A → List ℕ → Type 0) : Type 0 where
  pub takes : (bytes : List ℕ) (x : A × List ℕ) → IsBytes bytes → read bytes ≡ Ok x → (text : List ℕ) × (bytes ≡ text ++ x.1) × S x.0 text
  pub again : (value : A) (text rest : List ℕ) → S value text → read (text ++ rest) ≡ Ok (value, rest)
  pub stops : (bytes : List ℕ) (left : ℕ) → IsBytes bytes → read bytes ≡ Err left → Ended S bytes left ⊎ Broken read S bytes left
  pub some : (value : A) × (text : List ℕ) × S value text

-- the same by other words
pub renamed : {A : Type 0} {read : List ℕ → Result (A × List ℕ) ℕ} (S T : A → List ℕ → Type 0) → ((value : A) (text : List ℕ) → S value text → T value text) → ((value : A) (text : List ℕ) → T value text → S value text) → Reads read S → Reads read T
renamed {A} {read} S T there back r = record {
  takes = λ bytes x fits e. let t = r.takes bytes x fits e in (t.0, t.1, there x.0 t.0 t.2);
  again = λ value text rest s. r.again value text rest (back value text s);
  stops = λ bytes left fits e. elim (r.stops bytes left fits e) [
    | inl d ↦ inl (record { nothing = d.nothing; more = d.more; value = d.value; whole = there d.value (bytes ++ d.more) d.whole })
    | inr d ↦ inr (record { front = d.front; byte = d.byte; rest = d.rest; parts = d.parts; place = d.place; more = d.more; value = d.value; whole = there d.value (d.front ++ d.more) d.whole; stays = d.stays })
  ];
  some = (r.some.0, r.some.1, there r.some.0 r.some.1 r.some.2);
}

-- a value that needs no bytes
pub done : {A : Type 0} (value : A) → Reads (λ bytes. Ok (value, bytes)) (λ other text. (other ≡ value) × (text ≡ []))
done {A} value = record {
  takes = λ bytes x fits e. ([], ap (λ (y : A × List ℕ). y.1) (ok_is (value, bytes) x e), (ap (λ (y : A × List ℕ). y.0) (sym (ok_is (value, bytes) x e)), refl));
  again = λ other text rest s. rw (s.0, s.1) refl;
  stops = λ bytes left fits e. absurd cc;
  some = (value, [], (refl, refl));
}

-- one text behind another
pub record Then {A B : Type 0} (S : A → List ℕ → Type 0) (T : A → B → List ℕ → Type 0) (value : B) (text : List ℕ) : Type 0 where
  pub first : A
  pub front : List ℕ
  pub back : List ℕ
  pub parts : text ≡ front ++ back
  pub first_is : S first front
  pub second_is : T first value back

-- the value of a step that did not fail
bind_ok : {A B : Type 0} (r : Result A ℕ) (f : A → Result B ℕ) (y : B) → (r >>= f) ≡ Ok y → (x : A) × (r ≡ Ok x) × (f x ≡ Ok y)
bind_ok (Ok x) f y e = (x, refl, e)
bind_ok (Err d) f y e = absurd cc

-- either step may have failed
bind_err : {A B : Type 0} (r : Result A ℕ) (f : A → Result B ℕ) (left : ℕ) → (r >>= f) ≡ Err left → (r ≡ Err left) ⊎ ((x : A) × (r ≡ Ok x) × (f x ≡ Err left))
bind_err (Ok x) f left e = inr (x, refl, e)
bind_err (Err d) f left e = inl cc

pub then : {A B : Type 0} {read : List ℕ → Result (A × List ℕ) ℕ} {S : A → List ℕ → Type 0} {T : A → B → List ℕ → Type 0} (next : A → List ℕ → Result (B × List ℕ) ℕ) → Reads read S → ((value : A) → Reads (next value) (T value))
    → Reads (λ bytes. read bytes >>= λ x. next x.0 x.1) (Then S T)
then {A} {B} {read} {S} {T} next r n = record {
  takes = λ bytes y fits e.
      let b = bind_ok (read bytes) (λ x. next x.0 x.1) y e in
      let t = r.takes bytes b.0 fits b.1 in
      let u = (n b.0.0).takes b.0.1 y (IsBytes-behind t.0 b.0.1 (subst IsBytes t.1 fits)) b.2 in
      (t.0 ++ u.0, t.1 ∙ ap (λ (z : List ℕ). t.0 ++ z) u.1 ∙ sym (append_assoc t.0 u.0 y.1), record { first = b.0.0; front = t.0; back = u.0; parts = refl; first_is = t.2; second_is = u.2 });
  again = λ value text rest s.
      let e : text ++ rest ≡ s.front ++ (s.back ++ rest) = ap (λ (z : List ℕ). z ++ rest) s.parts ∙ append_assoc s.front s.back rest in
      rw (e, r.again s.first s.front (s.back ++ rest) s.first_is) ((n s.first).again value s.back rest s.second_is);
  stops = λ bytes left fits e. elim (bind_err (read bytes) (λ x. next x.0 x.1) left e) [
    | inl first ↦ elim (r.stops bytes left fits first) [
      | inl d ↦
          let more = (n d.value).some in
          inl (record { nothing = d.nothing; more = d.more ++ more.1; value = more.0; whole = record { first = d.value; front = bytes ++ d.more; back = more.1; parts = sym (append_assoc bytes d.more more.1); first_is = d.whole; second_is = more.2 } })
      | inr d ↦
          let more = (n d.value).some in
          inr (record { front = d.front; byte = d.byte; rest = d.rest; parts = d.parts; place = d.place; more = d.more ++ more.1; value = more.0; whole = record { first = d.value; front = d.front ++ d.more; back = more.1; parts = sym (append_assoc d.front d.more more.1); first_is = d.whole; second_is = more.2 }; stays = λ others. rw (d.stays others) refl })
    ]
    | inr second ↦
        let t = r.takes bytes second.0 fits second.1 in
        elim ((n second.0.0).stops second.0.1 left (IsBytes-behind t.0 second.0.1 (subst IsBytes t.1 fits)) second.2) [
          | inl d ↦
              inl (record { nothing = d.nothing; more = d.more; value = d.value; whole = record { first = second.0.0; front = t.0; back = second.0.1 ++ d.more; parts = ap (λ (z : List ℕ). z ++ d.more) t.1 ∙ append_assoc t.0 second.0.1 d.more; first_is = t.2; second_is = d.whole } })
          | inr d ↦
              inr (record {
                front = t.0 ++ d.front;
                byte = d.byte;
                rest = d.rest;
                parts = t.1 ∙ ap (λ (z : List ℕ). t.0 ++ z) d.parts ∙ sym (append_assoc t.0 d.front (d.byte ∷ d.rest));
                place = d.place;
                more = d.more;
                value = d.value;
                whole = record { first = second.0.0; front = t.0; back = d.front ++ d.more; parts = append_assoc t.0 d.front d.more; first_is = t.2; second_is = d.whole };
                stays = λ others. rw (append_assoc t.0 d.front (d.byte ∷ others), r.again second.0.0 t.0 (d.front ++ d.byte ∷ others) t.2) (d.stays others);
              })
        ]
  ];
  some =
      let next_some = (n r.some.0).some in
      (next_some.0, r.some.1 ++ next_some.1, record { first = r.some.0; front = r.some.1; back = next_some.1; parts = refl; first_is = r.some.2; second_is = next_some.2 });
}

-- what is read, seen otherwise
abbrev pub Seen : {A B : Type 0} → (A → B) → (A → List ℕ → Type 0) → B → List ℕ → Type 0
Seen {A} f S other text = (value : A) × (other ≡ f value) × S value text

pub seen : {A B : Type 0} {read : List ℕ → Result (A × List ℕ) ℕ} {S : A → List ℕ → Type 0} (f : A → B) → Reads read S → Reads (λ bytes. read bytes >>= λ x. Ok (f x.0, x.1)) (Seen f S)
seen {A} {B} {read} {S} f r =
    renamed (Then S (λ value other text. (other ≡ f value) × (text ≡ []))) (Seen f S)
    (λ other text t. (t.first, t.second_is.0, subst (S t.first) (sym (t.parts ∙ ap (λ (z : List ℕ). t.front ++ z) t.second_is.1 ∙ append-nil t.front)) t.first_is))
    (λ other text t. record { first = t.0; front = text; back = []; parts = sym (append-nil text); first_is = t.2; second_is = (t.1, refl) })
    (then {T = λ value other text. (other ≡ f value) × (text ≡ [])} (λ value bytes. Ok (f value, bytes)) r (λ value. done (f value)))

-- a reader that answers alike
pub alike : {A : Type 0} (read other : List ℕ → Result (A × List ℕ) ℕ) (S : A → List ℕ → Type 0) → ((bytes : List ℕ) → other bytes ≡ read bytes) → Reads read S → Reads other S
alike read other S same r = record {
  takes = λ bytes x fits e. r.takes bytes x fits (sym (same bytes) ∙ e);
  again = λ value text rest s. same (text ++ rest) ∙ r.again value text rest s;
  stops = λ bytes left fits e. elim (r.stops bytes left fits (sym (same bytes) ∙ e)) [
    | inl d ↦ inl d
    | inr d ↦ inr (record { front = d.front; byte = d.byte; rest = d.rest; parts = d.parts; place = d.place; more = d.more; value = d.value; whole = d.whole; stays = λ others. same (d.front ++ d.byte ∷ others) ∙ d.stays others })
  ];
  some = r.some;
}

-- a byte that means something, or nothing
abbrev pub found_at : {A : Type 0} → Option A → ℕ → List ℕ → Result (A × List ℕ) ℕ
found_at None left rest = Err left
found_at (Some value) left rest = Ok (value, rest)

abbrev pub meant_at : {A : Type 0} → (ℕ → Option A) → List ℕ → Result (A × List ℕ) ℕ
meant_at meaning [] = Err 0
meant_at meaning (byte ∷ rest) = found_at (meaning byte) (suc (length rest)) rest

pub record Meant {A : Type 0} (meaning : ℕ → Option A) (value : A) (text : List ℕ) : Type 0 where
  pub byte : ℕ
  pub small : byte < 2 ^ 8
  pub means : meaning byte ≡ Some value
  pub alone : text ≡ byte ∷ []

-- what an option is
pub option_is : {A : Type 0} (o : Option A) → (o ≡ None) ⊎ ((x : A) × (o ≡ Some x))
option_is None = inl refl
option_is (Some x) = inr (x, refl)

pub meant : {A : Type 0} (meaning : ℕ → Option A) (byte : ℕ) (value : A) → byte < 2 ^ 8 → meaning byte ≡ Some value → Reads (meant_at meaning) (Meant meaning)
meant {A} meaning byte value lt e = record { takes = takes; again = again; stops = stops; some = (value, byte ∷ [], example) }
  where
    example : Meant meaning value (byte ∷ [])
    example = record { byte = byte; small = lt; means = e; alone = refl }

    takes : (bytes : List ℕ) (x : A × List ℕ) → IsBytes bytes → meant_at meaning bytes ≡ Ok x → (text : List ℕ) × (bytes ≡ text ++ x.1) × Meant meaning x.0 text
    takes [] x fits read = absurd cc
    takes (b ∷ rest) x fits read =
        elim (option_is (meaning b)) [
          | inl none ↦ absurd (let failed : Path (Result (A × List ℕ) ℕ) (Err (suc (length rest))) (Ok x) = rw none at read in cc)
          | inr some ↦
              let is : Path (Result (A × List ℕ) ℕ) (Ok (some.0, rest)) (Ok x) = rw some.1 at read in
              subst (λ (y : A × List ℕ). (text : List ℕ) × (b ∷ rest ≡ text ++ y.1) × Meant meaning y.0 text) (ok_is (some.0, rest) x is) (b ∷ [], refl, record { byte = b; small = fits 0; means = some.1; alone = refl })
        ]

    again : (v : A) (text rest : List ℕ) → Meant meaning v text → meant_at meaning (text ++ rest) ≡ Ok (v, rest)
    again v text rest s = ap (λ (t : List ℕ). meant_at meaning (t ++ rest)) s.alone ∙ rw s.means refl

    stops : (bytes : List ℕ) (left : ℕ) → IsBytes bytes → meant_at meaning bytes ≡ Err left → Ended (Meant meaning) bytes left ⊎ Broken (meant_at meaning) (Meant meaning) bytes left
    stops [] left fits read = inl (record { nothing = cc; more = byte ∷ []; value = value; whole = example })
    stops (b ∷ rest) left fits read =
        elim (option_is (meaning b)) [
          | inl none ↦
              let failed : Path (Result (A × List ℕ) ℕ) (Err (suc (length rest))) (Err left) = rw none at read in
              inr (record { front = []; byte = b; rest = rest; parts = refl; place = cc; more = byte ∷ []; value = value; whole = example; stays = λ others. rw none refl })
          | inr some ↦ absurd (let is : Path (Result (A × List ℕ) ℕ) (Ok (some.0, rest)) (Err left) = rw some.1 at read in cc)
        ]
