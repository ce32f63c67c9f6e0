-- What a bounded machine is over. Our own.

-- the types of a machine: what locals and stacks hold, names of methods, thrown objects, what all frames share (the
-- heap, the statics, the answers left), what is shown, and how a run ends
pub record Domain : Type 1 where
  pub Value : Type 0
  pub Method : Type 0
  pub Thrown : Type 0
  pub Shared : Type 0
  pub Piece : Type 0
  pub Ending : Type 0
