-- Text that is put into a buffer of a fixed size.
use Rattle.std.proofs.Common.{◌≡◌, ℕ, zero, suc, ◌+◌, ◌-◌, ◌<◌, ◌≤◌, Bool, true, false, List, [], ◌∷◌, ◌++◌, length, get_or, take, min, refl, sym, ap, subst, ◌∙◌, arith, lit<, inl, inr, set}
use Rattle.std.proofs.Math.Seq.{take-append-add}
use Rattle.std.proofs.lemmas.List.{take_min, take_all, take_more_set, take-take, take-map, take-append-le, length-take, length-map, map-append, get_or-take}
use Rattle.std.proofs.lemmas.Bool.{cases_lt, le-leb, lt-leb}
use Rattle.std.specs.Prelude.{codes, decimal}
use Rattle.std.specs.Fmt.{is_char_start}
use Rattle.std.specs.Fmt.Cut.{floor_char_boundary}
use Rattle.wv_base.specs.Line.{Shows, kept_length, line, place_text, refusal_text, shown, shown_byte}
use Rattle.wv_base.specs.Rule.{number_of, name_of}
use Rattle.wv_base.specs.declared.broken.Broken.{Broken}

-- a front of two texts is one of the first, and what is left of the second
take-append : (n : ℕ) (xs ys : List ℕ) → take n (xs ++ ys) ≡ take n xs ++ take (n - length xs) ys
take-append n xs ys =
    elim (cases_lt n (length xs)) [
      | inl lt ↦
          let none : n - length xs ≡ 0 = omega arith in
          rw (take-append-le n xs ys (omega arith), none) (sym (append_empty (take n xs)))
      | inr le ↦
          let whole : n ≡ length xs + (n - length xs) = omega arith in
          ap (λ (k : ℕ). take k (xs ++ ys)) whole ∙ take-append-add xs ys (n - length xs) ∙ ap (λ (front : List ℕ). front ++ take (n - length xs) ys) (sym (take_all n xs le))
    ]
  where
    append_empty : (l : List ℕ) → l ++ [] ≡ l
    append_empty [] = refl
    append_empty (x ∷ xs) = ap (λ (t : List ℕ). x ∷ t) (append_empty xs)

-- a buffer goes on showing a text by what fits of more behind it
pub Shows-append : (old new : List ℕ) (len count : ℕ) (text more : List ℕ) → len ≤ 4096 → length old ≡ 4096 → count ≡ min (length more) (4096 - len)
    → take (len + count) new ≡ take len old ++ shown (take count more) → Shows old len text → Shows new (len + count) (text ++ more)
Shows-append old new len count text more within long counted stored shows =
    let known : len ≡ min 4096 (length text) =
    omega (arith, length-take len old, ap length shows.front, length-take 4096 (shown text), length-map text shown_byte) in
    let room : 4096 - length (shown text) ≡ 4096 - len = omega (arith, length-map text shown_byte) in
    let fits : take (4096 - len) (shown more) ≡ shown (take count more) =
    take-map shown_byte (4096 - len) more ∙ ap shown (sym (take_min (4096 - len) more) ∙ ap (λ (k : ℕ). take k more) (omega arith)) in
    record {
      front =
          stored ∙ ap (λ (front : List ℕ). front ++ shown (take count more)) shows.front
          ∙ ap (λ (back : List ℕ). take 4096 (shown text) ++ back) (sym fits)
          ∙ ap (λ (k : ℕ). take 4096 (shown text) ++ take k (shown more)) (sym room)
          ∙ sym (take-append 4096 (shown text) (shown more))
          ∙ ap (take 4096) (sym (map-append shown_byte text more));
    }

-- texts that agree up to a place have one last character before it
pub floor-same : (xs ys : List ℕ) (n k : ℕ) → k < n → take n xs ≡ take n ys → floor_char_boundary xs k ≡ floor_char_boundary ys k
unfolding floor_char_boundary
floor-same xs ys n zero lt same = refl
floor-same xs ys n (suc k) lt same =
    let here : get_or xs (suc k) 0 ≡ get_or ys (suc k) 0 =
    sym (get_or-take n xs (suc k) 0 lt) ∙ ap (λ (l : List ℕ). get_or l (suc k) 0) same ∙ get_or-take n ys (suc k) 0 lt in
    rw (here, floor-same xs ys n k (omega arith) same) refl

-- a place at which a character begins is its own last start, and another has that of the place before
pub floor-start : (xs : List ℕ) (k : ℕ) → is_char_start (get_or xs k 0) ≡ true → floor_char_boundary xs k ≡ k
unfolding floor_char_boundary
floor-start xs zero start = refl
floor-start xs (suc k) start = rw start refl

pub floor-within : (xs : List ℕ) (k : ℕ) → 0 < k → is_char_start (get_or xs k 0) ≡ false → floor_char_boundary xs k ≡ floor_char_boundary xs (k - 1)
unfolding floor_char_boundary
floor-within xs zero lt within = absurd (omega arith)
floor-within xs (suc k) lt within =
    let before : suc k - 1 ≡ k = omega arith in
    rw (within, before) refl

pub floor-zero : (xs : List ℕ) → floor_char_boundary xs 0 ≡ 0
unfolding floor_char_boundary
floor-zero xs = refl

-- what a buffer shows is kept as far as the text says
pub kept-short : (buffer : List ℕ) (len : ℕ) (text : List ℕ) → length buffer ≡ 4096 → len < 4096 → Shows buffer len text → len ≡ kept_length (shown text)
unfolding kept_length
kept-short buffer len text long lt shows =
    let known : len ≡ length (shown text) = omega (arith, length-take len buffer, ap length shows.front, length-take 4096 (shown text)) in
    rw (le-leb (length (shown text)) 4095 (omega arith)) known

pub kept-long : (buffer : List ℕ) (len : ℕ) (text : List ℕ) → length buffer ≡ 4096 → 4096 ≤ len → Shows buffer len text → floor_char_boundary buffer 4095 ≡ kept_length (shown text)
unfolding kept_length
kept-long buffer len text long le shows =
    let known : 4096 ≤ length (shown text) = omega (arith, length-take len buffer, ap length shows.front, length-take 4096 (shown text)) in
    let whole : take 4096 buffer ≡ take len buffer = take_all 4096 buffer (omega arith) ∙ sym (take_all len buffer (omega arith)) in
    rw (lt-leb (length (shown text)) 4095 (omega arith)) (floor-same buffer (shown text) 4096 4095 (lit< tt) (whole ∙ shows.front))

-- the line: what is kept, and a line feed behind it
pub ends_line : (buffer : List ℕ) (len kept : ℕ) (text : List ℕ) → length buffer ≡ 4096 → kept ≤ 4095 → kept ≤ len → Shows buffer len text
    → kept ≡ kept_length (shown text) → take (kept + 1) (set buffer kept 10) ≡ line text
unfolding line
ends_line buffer len kept text long within front shows known =
    take_more_set buffer kept 10 (omega arith)
    ∙ ap (λ (l : List ℕ). l ++ 10 ∷ [])
    (sym (take-take kept len buffer front) ∙ ap (take kept) shows.front ∙ take-take kept 4096 (shown text) (omega arith) ∙ ap (λ (k : ℕ). take k (shown text)) known)

-- a refusal's text, of its parts
abbrev pub parts_text : ℕ → List ℕ → List ℕ → List ℕ → List ℕ → List ℕ
parts_text number name place wanted found =
    ((((((((codes "refused: rule " ++ decimal number) ++ codes " ") ++ name) ++ codes " at ") ++ place) ++ codes " wanted ") ++ wanted) ++ codes " found ") ++ found

pub shows_refusal : (buffer : List ℕ) (len : ℕ) (broken : Broken) (number : ℕ) (name wanted found : List ℕ)
    → number ≡ number_of broken.rule → name ≡ name_of broken.rule → wanted ≡ broken.wanted → found ≡ broken.found
    → Shows buffer len (parts_text number name (place_text broken.place) wanted found) → Shows buffer len (refusal_text broken)
shows_refusal buffer len broken number name wanted found numbered named wants finds shows =
    let same : parts_text number name (place_text broken.place) wanted found ≡ refusal_text broken = rw (numbered, named, wants, finds) refl in
    subst (Shows buffer len) same shows
