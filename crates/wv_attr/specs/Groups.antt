-- How the parts of a table of annotations follow each other (JVM Specification 4.7.16 to 4.7.19).
use Rattle.std.specs.Prelude.{◌≡◌, ℕ, ◌+◌, ◌-◌, ◌<◌, ◌≤◌, List, [], ◌∷◌, length}
use Rattle.wv_room.specs.declared.element_count.ElementKind.{ElementKind}
use Rattle.wv_room.specs.declared.element_count.ElementKind.TheVariants as kinds
use Rattle.wv_room.specs.declared.elements.Elements.{Elements}
use Rattle.wv_room.specs.Counts.{elements_with}
use Rattle.wv_attr.specs.declared.mark.Mark.{Mark}
use Rattle.wv_attr.specs.declared.mark.Mark.TheVariants as marks
use Rattle.wv_attr.specs.declared.group.Group.{Group}
use Rattle.wv_attr.specs.Marks.{mark_bytes, IsMark}

-- the kind of item that a part is, or begins
abbrev pub kind_of : Mark → ElementKind
kind_of (marks.List count) = kinds.Parameter
kind_of (marks.Annotation class count) = kinds.Annotation
kind_of (marks.Name name) = kinds.Pair
kind_of (marks.Constant tag value) = kinds.Value
kind_of (marks.Enum descriptor name) = kinds.Value
kind_of (marks.Class descriptor) = kinds.Value
kind_of marks.Nested = kinds.Value
kind_of (marks.Array count) = kinds.Value

abbrev pub group : ElementKind → ℕ → ℕ → Group
group kind depth count = record { kind = kind; depth = depth; count = count }

-- the items that follow a part at this depth: a value within a value is one deeper
abbrev pub behind : ℕ → Mark → Group
behind depth (marks.List count) = group kinds.Annotation depth count
behind depth (marks.Annotation class count) = group kinds.Pair depth count
behind depth (marks.Name name) = group kinds.Value depth 1
behind depth (marks.Constant tag value) = group kinds.Value depth 0
behind depth (marks.Enum descriptor name) = group kinds.Value depth 0
behind depth (marks.Class descriptor) = group kinds.Value depth 0
behind depth marks.Nested = group kinds.Annotation (depth + 1) 1
behind depth (marks.Array count) = group kinds.Value (depth + 1) count

abbrev pub less : Group → Group
less g = record g { count = g.count - 1 }

-- values nest at most 255 deep (our own limit)
abbrev pub IsShallow : ElementKind → ℕ → Type 0
IsShallow kind depth = kind ≡ kinds.Value → depth ≤ 255

-- The parts are the items of the groups, in order. Those of them that begin within so many bytes from here on are no
-- values that are too deep.
pub data Follows : ℕ → List Group → List Mark → Type 0 where
  end : {near : ℕ} → Follows near [] []
  over : {near : ℕ} {g : Group} {gs : List Group} {ms : List Mark} → g.count ≡ 0 → Follows near gs ms → Follows near (g ∷ gs) ms
  part : {near : ℕ} {g : Group} {gs : List Group} {m : Mark} {ms : List Mark} → 0 < g.count → IsMark m → kind_of m ≡ g.kind → (0 < near → IsShallow g.kind g.depth)
      → Follows (near - length (mark_bytes m)) (behind g.depth m ∷ less g ∷ gs) ms → Follows near (g ∷ gs) (m ∷ ms)

abbrev pub nothing : Elements
nothing = record { bytes = 0; values = 0; annotations = 0; parameters = 0 }

-- how many items are to come, by their kinds
abbrev pub pending : List Group → Elements
pending [] = nothing
pending (g ∷ gs) = elements_with g.kind g.count (pending gs)
