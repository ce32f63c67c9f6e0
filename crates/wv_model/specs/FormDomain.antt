-- What both machines of the form are over (JVM Specification 2.3, 2.4, 2.5 and 2.10). The bounds are our own.
use Rattle.std.specs.Prelude.{ℕ, ℤ, List, [], false, codes, Option, unwrap_or, option_map, slice_get}
use Rattle.wv_model.specs.Domain.{Domain}
use Rattle.wv_model.specs.Control.{Rules}
use Rattle.wv_base.specs.declared.constant.MemberReference.{MemberReference}

-- a reference: null, the stream `System.out`, which exists from the start, or the object at a place of the heap
pub data Ref : Type 0 where
  Null : Ref
  SystemOut : Ref
  Place : ℕ → Ref

-- a value of the types that plain code has (2.2)
pub data Value : Type 0 where
  Int : ℤ → Value
  Reference : Ref → Value

-- an object: an array of references, by the descriptor of its class, or one of a class whose fields, if it has any, are
-- null or zero (2.4)
pub data Object : Type 0 where
  Array : (descriptor : List ℕ) → List Ref → Object
  Instance : (class : List ℕ) → Object

-- the class of an object; that of an array goes by its descriptor
abbrev pub object_class : Object → List ℕ
object_class (Array descriptor items) = descriptor
object_class (Instance class) = class

-- the class of what a reference refers to; null has none
abbrev pub class_of : List Object → Ref → List ℕ
class_of heap Null = []
class_of heap SystemOut = codes "java/io/PrintStream"
class_of heap (Place place) = unwrap_or (option_map object_class (slice_get heap place)) []

-- a method, by number: the start frame's, which calls the method of this reference, or the one at a place of a class
pub data MethodId : Type 0 where
  Start : MemberReference → MethodId
  At : (class place : ℕ) → MethodId

-- an answer of the outside, as a line of the answers file gives it
pub data Answer : Type 0 where
  AnInt : ℤ → Answer
  ALong : ℤ → Answer
  AFloat : ℕ → Answer
  ADouble : ℕ → Answer
  AVoid : Answer
  ANull : Answer
  AText : List ℕ → Answer
  AnObject : List ℕ → Answer
  ARef : ℕ → Answer
  AThrow : List ℕ → Answer

-- what all frames share: the heap as the list of its objects, the cells that they take and the most that they may take,
-- the numbers of the classes whose initialization has begun (5.5), the answers that are left, and the references that
-- were shown, in the order in which they first appeared
pub record Shared : Type 0 where
  pub heap : List Object
  pub used : ℕ
  pub most : ℕ
  pub begun : List ℕ
  pub answers : List Answer
  pub appeared : List Ref

-- a value as it is shown: a reference by its number in the order of first appearance
pub data ShownValue : Type 0 where
  ShownInt : ℤ → ShownValue
  ShownNull : ShownValue
  ShownReference : ℕ → ShownValue

-- an answer as it is shown: nothing, or a thrown object by its class and its number
pub data ShownAnswer : Type 0 where
  ShownVoid : ShownAnswer
  ShownThrow : (class : List ℕ) (number : ℕ) → ShownAnswer

-- what is shown: a byte of the output, or an outside step with its operands and the answer, where one fitted. No entry
-- of this form gives a value
pub data Piece : Type 0 where
  Byte : ℕ → Piece
  Outside : (method : MemberReference) (operands : List ShownValue) (answer : Option ShownAnswer) → Piece

-- how a run ends: the start frame returned; an object of this class was thrown out of it; an outside step found no
-- answer, or one that doesn't fit; a frame too many would be pushed; the cells are too few; or a name isn't found in
-- this class (5.4)
pub data Ending : Type 0 where
  Returned : Ending
  Threw : (class : List ℕ) → Ending
  NoAnswer : Ending
  BadAnswer : Ending
  Deep : Ending
  HeapFull : Ending
  Unlinked : (class : List ℕ) → Ending

-- what is thrown is an object, by its reference
abbrev pub form : Domain
form =
    record { Value = Value; Method = MethodId; Thrown = Ref; Shared = Shared; Piece = Piece; Ending = Ending }

-- no class of the form has an initializer
abbrev pub form_rules : Rules form
form_rules =
    record {
      is_initializer = λ method. false;
      last = λ value shared. [];
      returned = Returned;
      deep = Deep;
      uncaught = λ thrown shared. Threw (class_of shared.heap thrown);
    }
