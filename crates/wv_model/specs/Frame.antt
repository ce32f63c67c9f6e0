-- Frames. (JVM Specification 2.6.)
use Rattle.std.specs.Prelude.{List, Option, Some, None}
use Rattle.wv_model.specs.Domain.{Domain}

-- a frame of a method, at a place of it; and the thrown object, while a throw that has left the frame above comes back
pub record Frame (D : Domain) (Place : Type 0) : Type 0 where
  pub method : D.Method
  pub place : Place
  pub locals : List D.Value
  pub stack : List D.Value
  pub thrown : Option D.Thrown

-- the frame with a throw that comes back into it
abbrev pub struck : {D : Domain} {Place : Type 0} → D.Thrown → Frame D Place → Frame D Place
struck {D} {Place} thrown frame = record frame { thrown = Some thrown }

-- the frame without one
abbrev pub cleared : {D : Domain} {Place : Type 0} → Frame D Place → Frame D Place
cleared {D} {Place} frame = record frame { thrown = None }
