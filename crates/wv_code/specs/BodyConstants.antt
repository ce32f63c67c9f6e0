-- The constants that a body names, in the order in which they are put into a pool (JVM Specification 4.7.3 and 4.7.4).
use Rattle.std.specs.Prelude.{ℕ, List, [], ◌∷◌, ◌++◌, Option, Some, None, codes}
use Rattle.std.specs.List.{flat_map}
use Rattle.wv_base.specs.declared.class_file.ExceptionRange.{ExceptionRange}
use Rattle.wv_base.specs.declared.class_file.Body.{Body}
use Rattle.wv_base.specs.declared.constant.Const.{Const}
use Rattle.wv_base.specs.declared.constant.Const.TheVariants as constants
use Rattle.wv_base.specs.declared.frame.VType.{VType}
use Rattle.wv_base.specs.declared.frame.VType.TheVariants as vtypes
use Rattle.wv_base.specs.declared.frame.FrameAt.{FrameAt}
use Rattle.wv_code.specs.Constants.{all_constants}

-- the class that is caught, where it isn't every class
abbrev pub caught_class : Option (List ℕ) → List Const
caught_class None = []
caught_class (Some name) = constants.Class name ∷ []

abbrev pub range_constants : ExceptionRange → List Const
range_constants r = caught_class r.catch

-- the class of a type
abbrev pub type_constants : VType → List Const
type_constants (vtypes.Class name) = constants.Class name ∷ []
type_constants _ = []

-- the classes of a frame, those of its locals first
abbrev pub frame_constants : FrameAt → List Const
frame_constants one = flat_map type_constants one.frame.locals ++ flat_map type_constants one.frame.stack

-- the name of the frames' attribute, if there are frames
abbrev pub table_names : List FrameAt → List Const
table_names [] = []
table_names (one ∷ others) = constants.Utf8 (codes "StackMapTable") ∷ []

-- the classes of the frames, and the name of their attribute
abbrev pub table_constants : List FrameAt → List Const
table_constants frames = flat_map frame_constants frames ++ table_names frames

-- the constants that stand outside the code
abbrev pub other_constants : Body → List Const
other_constants body = flat_map range_constants body.ranges ++ table_constants body.frames

-- the constants of the instructions, of the ranges and of the frames
abbrev pub body_constants : Body → List Const
body_constants body = all_constants body.insns ++ other_constants body
