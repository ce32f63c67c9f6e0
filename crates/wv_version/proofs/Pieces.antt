-- Texts of pieces between dots.
use Rattle.std.proofs.Common.{◌≡◌, ◌≢◌, ℕ, ◌+◌, ◌==◌, List, [], ◌∷◌, ◌++◌, length, Option, Some, None, option_map, option_and_then, refl, ap, sym, ◌∙◌, arith, append_assoc}
use Rattle.std.specs.List.{AllByRecursion}
use Rattle.std.proofs.lemmas.List.Splits.{join_with_byte-slice_split, length-slice_split}
use Rattle.wv_version.specs.Cut.{IsFree, IsCut}
use Rattle.wv_version.specs.Dots.{SpellsEach, IsDotJoined}
use Rattle.wv_version.specs.Reading.{each_of, parts, parts_of}
use Rattle.wv_version.proofs.Cutting.{parts-join, parts-cut, IsFree-join}

-- `read` gives a value just where the text spells it
pub record Reads {A : Type 0} (read : List ℕ → Option A) (Spells : List ℕ → A → Type 0) : Type 0 where
  pub found : (text : List ℕ) (x : A) → read text ≡ Some x → Spells text x
  pub only : (text : List ℕ) (x : A) → Spells text x → read text ≡ Some x

each_cons : {A : Type 0} (Spells : List ℕ → A → Type 0) (piece : List ℕ) (pieces : List (List ℕ)) (first : Option A) (rest : Option (List A)) (xs : List A) → option_and_then (λ x. option_map (λ ys. x ∷ ys) rest) first ≡ Some xs → ((x : A) → first ≡ Some x → Spells piece x) → ((ys : List A) → rest ≡ Some ys → SpellsEach Spells pieces ys) → SpellsEach Spells (piece ∷ pieces) xs
each_cons Spells piece pieces None rest xs e one more = cc
each_cons Spells piece pieces (Some x) None xs e one more = cc
each_cons Spells piece pieces (Some x) (Some ys) [] e one more = cc
each_cons Spells piece pieces (Some x) (Some ys) (z ∷ zs) e one more =
    let head : Some x ≡ Some z = cc in
    let tail : Some ys ≡ Some zs = cc in
    (one z head, more zs tail)

pub each_of-found : {A : Type 0} (read : List ℕ → Option A) (Spells : List ℕ → A → Type 0) → Reads read Spells → (pieces : List (List ℕ)) (xs : List A) → each_of read pieces ≡ Some xs → SpellsEach Spells pieces xs
each_of-found read Spells reads [] [] e = tt
each_of-found read Spells reads [] (x ∷ xs) e = cc
each_of-found read Spells reads (piece ∷ pieces) xs e =
    each_cons Spells piece pieces (read piece) (each_of read pieces) xs e (reads.found piece) (each_of-found read Spells reads pieces)

pub each_of-only : {A : Type 0} (read : List ℕ → Option A) (Spells : List ℕ → A → Type 0) → Reads read Spells → (pieces : List (List ℕ)) (xs : List A) → SpellsEach Spells pieces xs → each_of read pieces ≡ Some xs
each_of-only read Spells reads [] [] h = refl
each_of-only read Spells reads [] (x ∷ xs) h = absurd h
each_of-only read Spells reads (piece ∷ pieces) [] h = absurd h
each_of-only read Spells reads (piece ∷ pieces) (x ∷ xs) h =
    rw (reads.only piece x h.0, each_of-only read Spells reads pieces xs h.1) refl

free_pieces : {A : Type 0} (mark : ℕ) (Spells : List ℕ → A → Type 0) → ((text : List ℕ) (x : A) → Spells text x → IsFree mark text) → (pieces : List (List ℕ)) (xs : List A) → SpellsEach Spells pieces xs → AllByRecursion (IsFree mark) pieces
free_pieces mark Spells free [] [] h = tt
free_pieces mark Spells free [] (x ∷ xs) h = absurd h
free_pieces mark Spells free (piece ∷ pieces) [] h = absurd h
free_pieces mark Spells free (piece ∷ pieces) (x ∷ xs) h = (free piece x h.0, free_pieces mark Spells free pieces xs h.1)

-- what no value's text has, the joined text doesn't have, but for the dots
pub IsFree-dots : {A : Type 0} (mark : ℕ) (Spells : List ℕ → A → Type 0) → ((text : List ℕ) (x : A) → Spells text x → IsFree mark text) → 46 ≢ mark → (text : List ℕ) (xs : List A) → IsDotJoined Spells text xs → IsFree mark text
IsFree-dots mark Spells free other text xs dots =
    rw dots.joined (IsFree-join mark 46 dots.pieces other (free_pieces mark Spells free dots.pieces xs dots.each))

pub dots-found : {A : Type 0} (read : List ℕ → Option A) (Spells : List ℕ → A → Type 0) → Reads read Spells → (text : List ℕ) (xs : List A) → each_of read (parts 46 text) ≡ Some xs → IsDotJoined Spells text xs
dots-found read Spells reads text xs e = record {
  pieces = parts 46 text;
  joined = sym (join_with_byte-slice_split 46 text);
  not_empty = omega (arith, length-slice_split (λ byte. byte == 46) text);
  each = each_of-found read Spells reads (parts 46 text) xs e;
}

pub dots-only : {A : Type 0} (read : List ℕ → Option A) (Spells : List ℕ → A → Type 0) → Reads read Spells → ((text : List ℕ) (x : A) → Spells text x → IsFree 46 text) → (text : List ℕ) (xs : List A) → IsDotJoined Spells text xs → each_of read (parts 46 text) ≡ Some xs
dots-only read Spells reads free text xs dots =
    let same : parts 46 text ≡ dots.pieces = ap (parts 46) dots.joined ∙ parts-join 46 dots.pieces dots.not_empty (free_pieces 46 Spells free dots.pieces xs dots.each) in
    ap (each_of read) same ∙ each_of-only read Spells reads dots.pieces xs dots.each

-- how much of a text is left, where one is
abbrev pub text_left : Option (List ℕ) → ℕ
text_left None = 0
text_left (Some text) = length text + 1

-- a loop over the parts has read `front`, and then a part that gives nothing
pub each_stop : {A : Type 0} (read : List ℕ → Option A) (front : List A) (text piece : List ℕ) (after : Option (List ℕ)) (whole : Option (List A)) → IsCut 46 text piece after → read piece ≡ None → option_map (λ more. front ++ more) (each_of read (parts 46 text)) ≡ whole → whole ≡ None
each_stop {A} read front text piece after whole cut none so_far =
    let first : each_of read (parts 46 text) ≡ None = ap (each_of read) (parts-cut 46 text piece after cut) ∙ stopped (each_of read (parts_of 46 after)) none in
    sym so_far ∙ ap (option_map (λ more. front ++ more)) first
  where
    stopped : {A : Type 0} {first : Option A} (rest : Option (List A)) → first ≡ None → option_and_then (λ x. option_map (λ xs. x ∷ xs) rest) first ≡ None
    stopped rest none = rw none refl

-- or a part that gives a value
pub each_step : {A : Type 0} (read : List ℕ → Option A) (front : List A) (text piece : List ℕ) (after : Option (List ℕ)) (whole : Option (List A)) (x : A) → IsCut 46 text piece after → read piece ≡ Some x → option_map (λ more. front ++ more) (each_of read (parts 46 text)) ≡ whole → option_map (λ more. (front ++ x ∷ []) ++ more) (each_of read (parts_of 46 after)) ≡ whole
each_step read front text piece after whole x cut some so_far =
    let first : each_of read (parts 46 text) ≡ option_map (λ xs. x ∷ xs) (each_of read (parts_of 46 after)) = ap (each_of read) (parts-cut 46 text piece after cut) ∙ stepped (each_of read (parts_of 46 after)) x some in
    moved front x (each_of read (parts_of 46 after)) ∙ sym (ap (option_map (λ more. front ++ more)) first) ∙ so_far
  where
    stepped : {A : Type 0} {first : Option A} (rest : Option (List A)) (x : A) → first ≡ Some x → option_and_then (λ x. option_map (λ xs. x ∷ xs) rest) first ≡ option_map (λ xs. x ∷ xs) rest
    stepped rest x some = rw some refl

    moved : {A : Type 0} (front : List A) (x : A) (rest : Option (List A)) → option_map (λ more. (front ++ x ∷ []) ++ more) rest ≡ option_map (λ more. front ++ more) (option_map (λ xs. x ∷ xs) rest)
    moved front x None = refl
    moved front x (Some rest) = ap Some (append_assoc front (x ∷ []) rest)
