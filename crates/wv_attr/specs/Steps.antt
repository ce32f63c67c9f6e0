-- Reading one part, besides which other items are to come.
use Rattle.std.specs.Prelude.{◌≡◌, ℕ, zero, suc, ◌+◌, ◌-◌, ◌<◌, ◌≤◌, List, [], ◌∷◌, ◌++◌, length, take, drop, Result, Ok, Err}
use Rattle.wv_room.specs.declared.element_count.ElementKind.{ElementKind}
use Rattle.wv_room.specs.declared.elements.Elements.{Elements}
use Rattle.wv_room.specs.Counts.{elements_with, ElementsFillRoom}
use Rattle.wv_attr.specs.declared.mark.Mark.{Mark}
use Rattle.wv_attr.specs.Marks.{two_bytes, mark_bytes, IsMark}
use Rattle.wv_attr.specs.Groups.{kind_of, behind, IsShallow}

unfoldable pub zeros : ℕ → List ℕ
zeros zero = []
zeros (suc n) = 0 ∷ zeros n

-- bytes with those that are missing, whatever they are
abbrev pub padded : List ℕ → ℕ → List ℕ
padded bytes missing = bytes ++ zeros missing

-- the part may stand here, where there is room for so many bytes: with what else is to come it can fill them
pub record IsNext (kind : ElementKind) (depth : ℕ) (besides : Elements) (room : ℕ) (m : Mark) : Type 0 where
  pub valid : IsMark m
  pub of_kind : kind_of m ≡ kind
  pub within : length (mark_bytes m) ≤ room
  pub fills : ElementsFillRoom (elements_with (behind depth m).kind (behind depth m).count besides) (room - length (mark_bytes m))

-- none may stand here that has the bytes up to and with the one at the place, but one may that has those before it
pub record StepFault (kind : ElementKind) (depth : ℕ) (besides : Elements) (bytes : List ℕ) (place : ℕ) : Type 0 where
  pub within : place < length bytes
  pub begins : 0 < place → (m : Mark) × IsShallow kind depth × IsNext kind depth besides (length bytes) m × (take place (mark_bytes m) ≡ take place bytes)
  pub none : (m : Mark) (w : List ℕ) → IsShallow kind depth → IsNext kind depth besides (length bytes) m → take (place + 1) (mark_bytes m ++ w) ≡ take (place + 1) bytes → ⊥

abbrev pub Steps : ElementKind → ℕ → Elements → List ℕ → Result Mark ℕ → Type 0
Steps kind depth besides bytes (Ok m) = IsShallow kind depth × IsNext kind depth besides (length bytes) m × (bytes ≡ mark_bytes m ++ drop (length (mark_bytes m)) bytes)
Steps kind depth besides bytes (Err place) = StepFault kind depth besides bytes place

-- Of the bytes so many are there. None may stand here that has those up to and with the one at the place, or the bytes
-- that are there end at it; but one may that has those before it.
pub record StepStop (kind : ElementKind) (depth : ℕ) (besides : Elements) (bytes : List ℕ) (there place : ℕ) : Type 0 where
  pub within : place ≤ there
  pub begins : 0 < place → (m : Mark) × IsShallow kind depth × IsNext kind depth besides (length bytes) m × (take place (mark_bytes m) ≡ take place bytes)
  pub none : place < there → (m : Mark) (w : List ℕ) → IsShallow kind depth → IsNext kind depth besides (length bytes) m → take (place + 1) (mark_bytes m ++ w) ≡ take (place + 1) bytes → ⊥
  pub more : there ≤ place → there < length bytes

-- the part at the front of those that are there
abbrev pub StepsWithin : ElementKind → ℕ → Elements → List ℕ → ℕ → Result Mark ℕ → Type 0
StepsWithin kind depth besides bytes there (Ok m) = Steps kind depth besides bytes (Ok m) × (length (mark_bytes m) ≤ there)
StepsWithin kind depth besides bytes there (Err place) = StepStop kind depth besides bytes there place

-- so many items may follow a count behind which there is room for so many bytes
pub record IsCount (kind : ElementKind) (besides : Elements) (room n : ℕ) : Type 0 where
  pub narrow : n < 65536
  pub fills : ElementsFillRoom (elements_with kind n besides) room

-- the same of a count in two bytes
pub record CountFault (kind : ElementKind) (besides : Elements) (bytes : List ℕ) (place : ℕ) : Type 0 where
  pub within : place < 2
  pub begins : 0 < place → (n : ℕ) × IsCount kind besides (length bytes - 2) n × (take place (two_bytes n) ≡ take place bytes)
  pub none : (n : ℕ) → IsCount kind besides (length bytes - 2) n → take (place + 1) (two_bytes n) ≡ take (place + 1) bytes → ⊥

abbrev pub Counts : ElementKind → Elements → List ℕ → Result ℕ ℕ → Type 0
Counts kind besides bytes (Ok n) = IsCount kind besides (length bytes - 2) n × (take 2 bytes ≡ two_bytes n)
Counts kind besides bytes (Err place) = CountFault kind besides bytes place
