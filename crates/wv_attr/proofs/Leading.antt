-- The parts that were read, and the groups that are left to read.
use Rattle.std.proofs.Common.{◌≡◌, ℕ, ◌+◌, ◌-◌, ◌*◌, ◌<◌, ◌≤◌, Bool, true, false, List, [], ◌∷◌, ◌++◌, length, drop, refl, sym, subst, ap, ◌∙◌, append_assoc, arith, IsTrue}
use Rattle.std.specs.Prelude.{◌==◌, if◌then◌else◌}
use Rattle.std.proofs.lemmas.List.{length-append, append-nil}
use Rattle.std.proofs.lemmas.List.Concat.{flat_map-append}
use Rattle.std.proofs.Math.Seq.{drop-append_seam}
use Rattle.wv_room.specs.declared.element_count.ElementKind.{ElementKind}
use Rattle.wv_room.specs.declared.element_count.ElementKind.TheVariants as kinds
use Rattle.wv_attr.specs.declared.mark.Mark.{Mark}
use Rattle.wv_attr.specs.declared.mark.Mark.TheVariants as marks
use Rattle.wv_attr.specs.declared.group.Group.{Group}
use Rattle.wv_attr.specs.Marks.{two_bytes, is_constant_tag, mark_bytes, table_bytes, IsMark}
use Rattle.wv_attr.specs.Groups.{kind_of, behind, less, IsShallow, Follows, end, over, part}

-- these parts lead from the first groups to the others
pub data Leads : List Group → List Mark → List Group → Type 0 where
  stay : {gs : List Group} → Leads gs [] gs
  past : {first : List Group} {front : List Mark} {g : Group} {gs : List Group} → g.count ≡ 0 → Leads first front (g ∷ gs) → Leads first front gs
  on : {first : List Group} {front : List Mark} {g : Group} {gs : List Group} (m : Mark) → 0 < g.count → IsMark m → kind_of m ≡ g.kind → IsShallow g.kind g.depth
      → Leads first front (g ∷ gs) → Leads first (front ++ m ∷ []) (behind g.depth m ∷ less g ∷ gs)

pub table-append : (xs ys : List Mark) → table_bytes (xs ++ ys) ≡ table_bytes xs ++ table_bytes ys
table-append xs ys = flat_map-append mark_bytes xs ys

pub table-one : (xs : List Mark) (m : Mark) → table_bytes (xs ++ m ∷ []) ≡ table_bytes xs ++ mark_bytes m
table-one xs m = table-append xs (m ∷ []) ∙ ap (λ (t : List ℕ). table_bytes xs ++ t) (append-nil (mark_bytes m))

pub length-one : (xs : List Mark) (m : Mark) → length (table_bytes (xs ++ m ∷ [])) ≡ length (table_bytes xs) + length (mark_bytes m)
length-one xs m = ap length (table-one xs m) ∙ length-append (table_bytes xs) (mark_bytes m)

nearer : {a b : ℕ} {gs : List Group} {ms : List Mark} → a ≡ b → Follows a gs ms → Follows b gs ms
nearer {a} {b} {gs} {ms} e f = subst (λ (k : ℕ). Follows k gs ms) e f

-- what follows them follows from the first on
pub leads_follow : {first gs : List Group} {front : List Mark} → Leads first front gs → (near : ℕ) (ms : List Mark) → Follows near gs ms → Follows (length (table_bytes front) + near) first (front ++ ms)
leads_follow stay near ms f = nearer (omega arith) f
leads_follow (past z l) near ms f = leads_follow l near ms (over z f)
leads_follow (on {first} {front} {g} {gs} m c valid kind shallow l) near ms f =
    let all = leads_follow l (length (mark_bytes m) + near) (m ∷ ms) (part c valid kind (λ _. shallow) (nearer (omega arith) f)) in
    let long : length (table_bytes front) + (length (mark_bytes m) + near) ≡ length (table_bytes (front ++ m ∷ [])) + near = omega (arith, length-one front m) in
    subst (λ (k : List Mark). Follows (length (table_bytes (front ++ m ∷ [])) + near) first k) (sym (append_assoc front (m ∷ []) ms)) (nearer long all)

number : List ℕ → ℕ
number (a ∷ b ∷ w) = a * 256 + b
number _ = 0

second : List ℕ → ℕ
unfolding number
second (a ∷ b ∷ w) = number w
second _ = 0

tagged : ℕ → List ℕ → Mark
unfolding number second
tagged tag w =
    if tag == 101 then marks.Enum (number w) (second w)
    else if tag == 99 then marks.Class (number w)
    else if tag == 64 then marks.Nested
    else if tag == 91 then marks.Array (number w)
    else marks.Constant tag (number w)

-- the part of a kind that bytes begin with
parse : ElementKind → List ℕ → Mark
unfolding tagged number second
parse kinds.Parameter w = marks.List (number w)
parse kinds.Annotation w = marks.Annotation (number w) (second w)
parse kinds.Pair w = marks.Name (number w)
parse kinds.Value (tag ∷ w) = tagged tag w
parse kinds.Value [] = marks.Nested

number_is : (n : ℕ) (w : List ℕ) → number (two_bytes n ++ w) ≡ n
unfolding number
number_is n w = omega arith

second_is : (m n : ℕ) (w : List ℕ) → second ((two_bytes m ++ two_bytes n) ++ w) ≡ n
unfolding second number
second_is m n w = omega arith

not_tag : (tag other : ℕ) → IsTrue (is_constant_tag tag) → is_constant_tag other ≡ false → (tag == other) ≡ false
not_tag tag other h unlike = go (tag == other) refl
  where
    go : (b : Bool) → (tag == other) ≡ b → (tag == other) ≡ false
    go true e = let same : tag ≡ other = grind arith in let bad : false ≡ true = sym unlike ∙ subst (λ (k : ℕ). IsTrue (is_constant_tag k)) same h in absurd cc
    go false e = e

constant_is : (tag value : ℕ) (w : List ℕ) → IsTrue (is_constant_tag tag) → tagged tag (two_bytes value ++ w) ≡ marks.Constant tag value
unfolding tagged
constant_is tag value w h =
    rw (not_tag tag 101 h refl, not_tag tag 99 h refl, not_tag tag 64 h refl, not_tag tag 91 h refl, number_is value w) refl

parsed : (m : Mark) (w : List ℕ) → IsMark m → parse (kind_of m) (mark_bytes m ++ w) ≡ m
unfolding parse
parsed (marks.List count) w h = ap (λ (k : ℕ). marks.List k) (number_is count w)
parsed (marks.Annotation class count) w h =
    let first = number_is class (two_bytes count ++ w) in
    let last = second_is class count w in
    ap (λ (k : ℕ). marks.Annotation k (second ((two_bytes class ++ two_bytes count) ++ w))) first ∙ ap (λ (k : ℕ). marks.Annotation class k) last
parsed (marks.Name name) w h = ap (λ (k : ℕ). marks.Name k) (number_is name w)
parsed (marks.Constant tag value) w h = constant_is tag value w h.0
parsed (marks.Enum descriptor name) w h =
    let first = number_is descriptor (two_bytes name ++ w) in
    let last = second_is descriptor name w in
    (unfold tagged in refl) ∙ ap (λ (k : ℕ). marks.Enum k (second ((two_bytes descriptor ++ two_bytes name) ++ w))) first ∙ ap (λ (k : ℕ). marks.Enum descriptor k) last
parsed (marks.Class descriptor) w h = (unfold tagged in refl) ∙ ap (λ (k : ℕ). marks.Class k) (number_is descriptor w)
parsed marks.Nested w h = unfold tagged in refl
parsed (marks.Array count) w h = (unfold tagged in refl) ∙ ap (λ (k : ℕ). marks.Array k) (number_is count w)

-- bytes begin with one part of a kind
pub one_mark : (a b : Mark) (v w : List ℕ) → IsMark a → IsMark b → kind_of a ≡ kind_of b → mark_bytes a ++ v ≡ mark_bytes b ++ w → a ≡ b
one_mark a b v w ha hb kind e =
    sym (parsed a v ha) ∙ ap (λ (k : ElementKind). parse k (mark_bytes a ++ v)) kind ∙ ap (parse (kind_of b)) e ∙ parsed b w hb

pub record Rest (near : ℕ) (gs : List Group) (front all : List Mark) : Type 0 where
  pub parts : List Mark
  pub splits : all ≡ front ++ parts
  pub follows : Follows (near - length (table_bytes front)) gs parts

pub same_front : (a v w : List ℕ) → a ++ v ≡ a ++ w → v ≡ w
same_front a v w e = sym (drop-append_seam a v) ∙ ap (drop (length a)) e ∙ drop-append_seam a w

pub past_over : {near : ℕ} {g : Group} {gs : List Group} {ms : List Mark} → g.count ≡ 0 → Follows near (g ∷ gs) ms → Follows near gs ms
past_over z (over same f) = f
past_over z (part c valid kind shallow f) = absurd (omega arith)

pub record First (near : ℕ) (g : Group) (gs : List Group) (ms : List Mark) : Type 0 where
  pub mark : Mark
  pub others : List Mark
  pub splits : ms ≡ mark ∷ others
  pub valid : IsMark mark
  pub of_kind : kind_of mark ≡ g.kind
  pub shallow : 0 < near → IsShallow g.kind g.depth
  pub follows : Follows (near - length (mark_bytes mark)) (behind g.depth mark ∷ less g ∷ gs) others

pub first_of : {near : ℕ} {g : Group} {gs : List Group} {ms : List Mark} → 0 < g.count → Follows near (g ∷ gs) ms → First near g gs ms
first_of c (over z f) = absurd (omega arith)
first_of c (part {near} {g} {gs} {m} {ms} c2 valid kind shallow f) = record { mark = m; others = ms; splits = refl; valid = valid; of_kind = kind; shallow = shallow; follows = f }

-- what follows from the first on, and has their bytes, begins with them
pub leads_only : {first gs : List Group} {front : List Mark} → Leads first front gs → (near : ℕ) (all : List Mark) (w : List ℕ) → Follows near first all → table_bytes all ≡ table_bytes front ++ w → Rest near gs front all
leads_only stay near all w f e = record { parts = all; splits = refl; follows = nearer (omega arith) f }
leads_only (past {first} {front} {g} {gs} z l) near all w f e =
    let r = leads_only l near all w f e in
    record { parts = r.parts; splits = r.splits; follows = past_over z r.follows }
leads_only (on {first} {front} {g} {gs} m c valid kind shallow l) near all w f e =
    let apart : table_bytes all ≡ table_bytes front ++ (mark_bytes m ++ w) = e ∙ ap (λ (t : List ℕ). t ++ w) (table-one front m) ∙ append_assoc (table_bytes front) (mark_bytes m) w in
    let r = leads_only l near all (mark_bytes m ++ w) f apart in
    let i = first_of c r.follows in
    let rest : table_bytes r.parts ≡ mark_bytes m ++ w = same_front (table_bytes front) (table_bytes r.parts) (mark_bytes m ++ w) (sym (table-append front r.parts) ∙ ap table_bytes (sym r.splits) ∙ apart) in
    let same : i.mark ≡ m = one_mark i.mark m (table_bytes i.others) w i.valid valid (i.of_kind ∙ sym kind) (ap table_bytes (sym i.splits) ∙ rest) in
    let long : near - length (table_bytes front) - length (mark_bytes m) ≡ near - length (table_bytes (front ++ m ∷ [])) = omega (arith, length-one front m) in
    record {
      parts = i.others;
      splits = r.splits ∙ ap (λ (t : List Mark). front ++ t) (i.splits ∙ ap (λ (k : Mark). k ∷ i.others) same) ∙ sym (append_assoc front (m ∷ []) i.others);
      follows = nearer long (subst (λ (k : Mark). Follows (near - length (table_bytes front) - length (mark_bytes k)) (behind g.depth k ∷ less g ∷ gs) i.others) same i.follows);
    }

-- parts that begin later have no limit
pub nearer_only : {near : ℕ} {gs : List Group} {ms : List Mark} → (k : ℕ) → k ≤ near → Follows near gs ms → Follows k gs ms
nearer_only k le end = end
nearer_only k le (over z f) = over z (nearer_only k le f)
nearer_only k le (part {near} {g} {gs} {m} {ms} c valid kind shallow f) = part c valid kind (λ pos. shallow (omega arith)) (nearer_only (k - length (mark_bytes m)) (omega arith) f)
