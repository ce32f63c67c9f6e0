-- The parts of annotations with constants in place of their numbers (JVM Specification 4.7.16 and 4.7.16.1).
use Rattle.std.specs.Prelude.{◌≡◌, ℕ, ◌+◌, max, List, [], ◌∷◌, length, Some}
use Rattle.std.specs.List.{flat_map}
use Rattle.wv_base.specs.declared.class_file.PoolEntry.{PoolEntry}
use Rattle.wv_base.specs.declared.note.Annotation.{Annotation}
use Rattle.wv_base.specs.declared.note.NamedElement.{NamedElement}
use Rattle.wv_base.specs.declared.note.Element.{Element}
use Rattle.wv_base.specs.declared.note.Element.TheOpen.{Element-F, Annotation-F, NamedElement-F}
use Rattle.wv_base.specs.declared.note.Element.TheOpen as layer
use Rattle.wv_base.specs.declared.note.Element.TheFolds.{fold-Element, fold-Annotation, fold-NamedElement}
use Rattle.wv_base.specs.declared.note.Note.{Note}
use Rattle.wv_pool.specs.References.{text_of}
use Rattle.wv_pool.specs.Constants.{constant_of}
use Rattle.wv_attr.specs.declared.mark.Mark.{Mark}
use Rattle.wv_attr.specs.declared.mark.Mark.TheVariants as marks
use Rattle.wv_attr.specs.declared.piece.Piece.{Piece}
use Rattle.wv_attr.specs.declared.piece.Piece.TheVariants as pieces
use Rattle.wv_attr.specs.Meanings.{class_descriptor}

-- a value, an annotation and an element, where these are the parts of what is inside
abbrev pub value_around : Element-F (List Piece) (List Piece) (List Piece) → List Piece
value_around (layer.Constant tag value) = pieces.Constant tag value ∷ []
value_around (layer.Enum descriptor name) = pieces.Enum descriptor name ∷ []
value_around (layer.Class descriptor) = pieces.Class descriptor ∷ []
value_around (layer.Annotation inside) = pieces.Nested ∷ inside
value_around (layer.Array inside) = pieces.Array (length inside) ∷ flat_map (λ value. value) inside

abbrev pub annotation_around : Annotation-F (List Piece) (List Piece) (List Piece) → List Piece
annotation_around a = pieces.Annotation a.class (length a.elements) ∷ flat_map (λ pair. pair) a.elements

abbrev pub pair_around : NamedElement-F (List Piece) (List Piece) (List Piece) → List Piece
pair_around p = pieces.Name p.name ∷ p.value

-- the parts of a value, of an annotation and of an annotation's element, those of what is inside behind it
unfoldable pub value_pieces : Element → List Piece
value_pieces = fold-Element (List Piece) (List Piece) (List Piece) value_around annotation_around pair_around

unfoldable pub annotation_pieces : Annotation → List Piece
annotation_pieces = fold-Annotation (List Piece) (List Piece) (List Piece) value_around annotation_around pair_around

unfoldable pub pair_pieces : NamedElement → List Piece
pair_pieces = fold-NamedElement (List Piece) (List Piece) (List Piece) value_around annotation_around pair_around

-- the parts of a list of annotations
abbrev pub list_pieces : List Note → List Piece
list_pieces notes = pieces.List (length notes) ∷ flat_map (λ (n : Note). annotation_pieces n.annotation) notes

abbrev pub most : List ℕ → ℕ
most [] = 0
most (n ∷ ns) = max n (most ns)

-- how deep values nest in a value, in an annotation and in an element, where these are the depths of what is inside
abbrev pub value_depth_around : Element-F ℕ ℕ ℕ → ℕ
value_depth_around (layer.Constant tag value) = 1
value_depth_around (layer.Enum descriptor name) = 1
value_depth_around (layer.Class descriptor) = 1
value_depth_around (layer.Annotation inside) = 1 + inside
value_depth_around (layer.Array inside) = 1 + most inside

abbrev pub annotation_depth_around : Annotation-F ℕ ℕ ℕ → ℕ
annotation_depth_around a = most a.elements

abbrev pub pair_depth_around : NamedElement-F ℕ ℕ ℕ → ℕ
pair_depth_around p = p.value

-- how deep values nest: one that holds none is one deep
unfoldable pub value_depth : Element → ℕ
value_depth = fold-Element ℕ ℕ ℕ value_depth_around annotation_depth_around pair_depth_around

unfoldable pub annotation_depth : Annotation → ℕ
annotation_depth = fold-Annotation ℕ ℕ ℕ value_depth_around annotation_depth_around pair_depth_around

unfoldable pub pair_depth : NamedElement → ℕ
pair_depth = fold-NamedElement ℕ ℕ ℕ value_depth_around annotation_depth_around pair_depth_around

-- how many bytes a part has
abbrev pub piece_size : Piece → ℕ
piece_size (pieces.List count) = 2
piece_size (pieces.Annotation class count) = 4
piece_size (pieces.Name name) = 2
piece_size (pieces.Constant tag value) = 3
piece_size (pieces.Enum descriptor name) = 5
piece_size (pieces.Class descriptor) = 3
piece_size pieces.Nested = 1
piece_size (pieces.Array count) = 3

abbrev pub pieces_size : List Piece → ℕ
pieces_size [] = 0
pieces_size (p ∷ ps) = piece_size p + pieces_size ps

-- the numbers of the part name what stands in their place
abbrev pub Names : List PoolEntry → Piece → Mark → Type 0
Names pool (pieces.List count) (marks.List n) = n ≡ count
Names pool (pieces.Annotation class count) (marks.Annotation type n) = (text_of pool type ≡ Some (class_descriptor class)) × (n ≡ count)
Names pool (pieces.Name name) (marks.Name n) = text_of pool n ≡ Some name
Names pool (pieces.Constant tag value) (marks.Constant t n) = (t ≡ tag) × (constant_of pool n ≡ Some value)
Names pool (pieces.Enum descriptor name) (marks.Enum d n) = (text_of pool d ≡ Some descriptor) × (text_of pool n ≡ Some name)
Names pool (pieces.Class descriptor) (marks.Class d) = text_of pool d ≡ Some descriptor
Names pool pieces.Nested marks.Nested = Unit {0}
Names pool (pieces.Array count) (marks.Array n) = n ≡ count
Names pool _ _ = ⊥

abbrev pub AllName : List PoolEntry → List Piece → List Mark → Type 0
AllName pool [] [] = Unit {0}
AllName pool (p ∷ ps) (m ∷ ms) = Names pool p m × AllName pool ps ms
AllName pool _ _ = ⊥
