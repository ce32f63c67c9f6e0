-- The annotations that a table can have, and the constants that they need (JVM Specification 4.7.16 to 4.7.19).
use Rattle.std.specs.Prelude.{◌≡◌, ℕ, zero, suc, ◌+◌, ◌^◌, ◌<◌, ◌≤◌, ◌==◌, ◌||◌, Bool, false, IsTrue, List, [], ◌∷◌, ◌++◌, map, Option, Some, None}
use Rattle.std.specs.List.{flat_map, filter, AllByRecursion}
use Rattle.wv_base.specs.declared.constant.Const.{Const}
use Rattle.wv_base.specs.declared.constant.Const.TheVariants as constants
use Rattle.wv_base.specs.declared.note.Note.{Note}
use Rattle.wv_base.specs.Names.{is_class_name}
use Rattle.wv_base.specs.Descriptor.{IsFieldDescriptor}
use Rattle.wv_pool.specs.Adding.{needs}
use Rattle.wv_pool.specs.Allowed.{IsShort, IsAllowed}
use Rattle.wv_attr.specs.declared.piece.Piece.{Piece}
use Rattle.wv_attr.specs.declared.piece.Piece.TheVariants as pieces
use Rattle.wv_attr.specs.References.{IsClassValue}
use Rattle.wv_attr.specs.Meanings.{class_descriptor}
use Rattle.wv_attr.specs.Pieces.{annotation_depth, list_pieces, pieces_size}

-- the tags under which a constant stands: an Integer under B C I S and Z, a Float, a Long and a Double under F, J and D,
-- and a text under s
abbrev pub fits_tag : Const → ℕ → Bool
fits_tag (constants.Integer value) tag = tag == 66 || tag == 67 || tag == 73 || tag == 83 || tag == 90
fits_tag (constants.Float bits) tag = tag == 70
fits_tag (constants.Long value) tag = tag == 74
fits_tag (constants.Double bits) tag = tag == 68
fits_tag (constants.Utf8 text) tag = tag == 115
fits_tag _ tag = false

-- a part whose counts have room in two bytes, whose names and descriptors are such, and whose constants a pool may hold
abbrev pub IsFormed : Piece → Type 0
IsFormed (pieces.List count) = count < 2 ^ 16
IsFormed (pieces.Annotation class count) = IsTrue (is_class_name class) × IsShort (class_descriptor class) × (count < 2 ^ 16)
IsFormed (pieces.Name name) = IsShort name
IsFormed (pieces.Constant tag value) = IsTrue (fits_tag value tag) × IsAllowed value
IsFormed (pieces.Enum descriptor name) = IsShort descriptor × IsFieldDescriptor descriptor × IsShort name
IsFormed (pieces.Class descriptor) = IsShort descriptor × IsClassValue descriptor
IsFormed pieces.Nested = Unit {0}
IsFormed (pieces.Array count) = count < 2 ^ 16

-- values nest at most 255 deep (our own limit)
abbrev pub AreShallow : List Note → Type 0
AreShallow notes = AllByRecursion (λ (n : Note). annotation_depth n.annotation ≤ 255) notes

-- annotations that one list can have, in a table whose length has four bytes (4.7)
abbrev pub AreWritable : List Note → Type 0
AreWritable notes = AreShallow notes × AllByRecursion IsFormed (list_pieces notes) × (pieces_size (list_pieces notes) < 2 ^ 32)

-- the constants of a part and of parts, the last first
abbrev pub piece_needs : Piece → List Const
piece_needs (pieces.List count) = []
piece_needs (pieces.Annotation class count) = constants.Utf8 (class_descriptor class) ∷ []
piece_needs (pieces.Name name) = constants.Utf8 name ∷ []
piece_needs (pieces.Constant tag value) = needs value
piece_needs (pieces.Enum descriptor name) = constants.Utf8 name ∷ constants.Utf8 descriptor ∷ []
piece_needs (pieces.Class descriptor) = constants.Utf8 descriptor ∷ []
piece_needs pieces.Nested = []
piece_needs (pieces.Array count) = []

abbrev pub pieces_need : List Piece → List Const
pieces_need [] = []
pieces_need (p ∷ ps) = pieces_need ps ++ piece_needs p

-- and of a list of annotations
abbrev pub notes_need : List Note → List Const
notes_need notes = pieces_need (list_pieces notes)

-- the same annotations in a table of a class or of a member, which is visible or not
abbrev pub as_members : Bool → List Note → List Note
as_members visible notes = map (λ (n : Note). record { visible = visible; parameter = None; annotation = n.annotation }) notes

-- and in a table of parameters
abbrev pub as_parameters : Bool → List Note → List Note
as_parameters visible notes = map (λ (n : Note). record { visible = visible; parameter = n.parameter; annotation = n.annotation }) notes

-- annotations that all are of such a table
abbrev pub AreMembers : Bool → List Note → Type 0
AreMembers visible notes = AllByRecursion (λ (n : Note). (n.visible ≡ visible) × (n.parameter ≡ None)) notes

abbrev pub AreParameters : Bool → List Note → Type 0
AreParameters visible notes = AllByRecursion (λ (n : Note). n.visible ≡ visible) notes

-- annotations of parameters from this one up to a number of them, in the parameters' order
abbrev pub AreOrdered : ℕ → ℕ → List Note → Type 0
AreOrdered least count [] = Unit {0}
AreOrdered least count (n ∷ others) = (place : ℕ) × (n.parameter ≡ Some place) × (least ≤ place) × (place < count) × AreOrdered place count others

abbrev pub is_place : ℕ → Option ℕ → Bool
is_place place (Some parameter) = parameter == place
is_place place None = false

-- the annotations of the parameters from this one on, so many: a list for each
abbrev pub by_place : ℕ → ℕ → List Note → List (List Note)
by_place place zero notes = []
by_place place (suc count) notes = filter (λ (n : Note). is_place place n.parameter) notes ∷ by_place (place + 1) count notes

abbrev pub lists_pieces : List (List Note) → List Piece
lists_pieces lists = flat_map list_pieces lists

-- annotations that a table of so many parameters can have: one byte counts the lists
abbrev pub AreWritableOf : ℕ → List Note → Type 0
AreWritableOf count notes = AreOrdered 0 count notes × AreShallow notes × AllByRecursion IsFormed (lists_pieces (by_place 0 count notes))
    × (1 + pieces_size (lists_pieces (by_place 0 count notes)) < 2 ^ 32)

abbrev pub parameters_need : ℕ → List Note → List Const
parameters_need count notes = pieces_need (lists_pieces (by_place 0 count notes))
