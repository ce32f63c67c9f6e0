-- What the row of an instruction answers. A row knows no places. (JVM Specification chapter 6, as rows.)
use Rattle.std.specs.Prelude.{ℕ, List, Option}
use Rattle.wv_model.specs.Domain.{Domain}

-- the effect of an instruction
pub data Effect (D : Domain) : Type 0 where
  -- the next instruction follows
  Next : (stack : List D.Value) (shared : D.Shared) → Effect D
  -- the k-th target of this instruction follows
  Jump : (k : ℕ) (stack : List D.Value) (shared : D.Shared) → Effect D
  -- a method is called, and the frame waits with this stack
  Call : (method : D.Method) (args : List D.Value) (stack : List D.Value) (shared : D.Shared) → Effect D
  -- the method returns, with a value or none
  Give : (value : Option D.Value) (shared : D.Shared) → Effect D
  -- an exception is thrown
  Raise : (thrown : D.Thrown) (shared : D.Shared) → Effect D
  -- a class is marked as begun, its initializer (if it has one) is called, and the instruction itself follows
  Init : (initializer : Option D.Method) (shared : D.Shared) → Effect D
  -- the run ends
  End : (ending : D.Ending) (shared : D.Shared) → Effect D
  -- the instruction doesn't find what it needs
  Stuck : Effect D

-- the locals after an instruction, what it shows, and its effect
pub record Row (D : Domain) : Type 0 where
  pub locals : List D.Value
  pub shown : List D.Piece
  pub effect : Effect D
