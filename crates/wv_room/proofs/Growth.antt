-- More items take no less room.
use Rattle.std.proofs.Common.{ℕ, ◌+◌, ◌*◌, ◌<◌, ◌≤◌, arith}
use Rattle.wv_room.specs.declared.elements.Elements.{Elements}
use Rattle.wv_room.specs.declared.frames.Frames.{Frames}
use Rattle.wv_room.specs.declared.tables.Tables.{Tables}
use Rattle.wv_room.specs.declared.element_count.ElementKind.{ElementKind}
use Rattle.wv_room.specs.declared.element_count.ElementKind.TheVariants as element
use Rattle.wv_room.specs.declared.frame_count.FrameKind.{FrameKind}
use Rattle.wv_room.specs.declared.frame_count.FrameKind.TheVariants as frame
use Rattle.wv_room.specs.declared.table_count.TableKind.{TableKind}
use Rattle.wv_room.specs.declared.table_count.TableKind.TheVariants as table
use Rattle.wv_room.specs.Counts.{elements_with, frames_with, tables_with, ElementsFillRoom, FramesFillRoom, TablesFillRoom}
use Rattle.wv_room.proofs.ElementSizes as elements
use Rattle.wv_room.proofs.FrameSizes as frames
use Rattle.wv_room.proofs.TableSizes as tables

abbrev pub least_elements : Elements → ℕ
least_elements e = e.bytes + 3 * e.values + 4 * e.annotations + 2 * e.parameters

abbrev pub least_frames : Frames → ℕ
least_frames f = f.bytes + f.types + 2 * f.lists + f.frames

abbrev pub least_tables : Tables → ℕ
least_tables t = t.bytes + 6 * t.attributes + 2 * t.attribute_tables + 2 * t.range_tables

more_elements : (kind : ElementKind) (k n : ℕ) (e : Elements) → k ≤ n → least_elements (elements_with kind k e) ≤ least_elements (elements_with kind n e)
more_elements element.Value k n e h = omega arith
more_elements element.Pair k n e h = omega arith
more_elements element.Annotation k n e h = omega arith
more_elements element.Parameter k n e h = omega arith

more_frames : (kind : FrameKind) (k n : ℕ) (f : Frames) → k ≤ n → least_frames (frames_with kind k f) ≤ least_frames (frames_with kind n f)
more_frames frame.Type k n f h = omega arith
more_frames frame.Frame k n f h = omega arith

more_tables : (kind : TableKind) (k n : ℕ) (t : Tables) → k ≤ n → least_tables (tables_with kind k t) ≤ least_tables (tables_with kind n t)
more_tables table.Byte k n t h = omega arith
more_tables table.Range k n t h = omega arith
more_tables table.Attribute k n t h = omega arith

pub past_elements : (kind : ElementKind) (k n room : ℕ) (e : Elements) → room < least_elements (elements_with kind k e) → k ≤ n → ElementsFillRoom (elements_with kind n e) room → ⊥
past_elements kind k n room e large le fill = let r = elements.reached fill in omega (arith, more_elements kind k n e le, r.size)

pub past_frames : (kind : FrameKind) (k n room : ℕ) (f : Frames) → room < least_frames (frames_with kind k f) → k ≤ n → FramesFillRoom (frames_with kind n f) room → ⊥
past_frames kind k n room f large le fill = let r = frames.reached fill in omega (arith, more_frames kind k n f le, r.size)

pub past_tables : (kind : TableKind) (k n room : ℕ) (t : Tables) → room < least_tables (tables_with kind k t) → k ≤ n → TablesFillRoom (tables_with kind n t) room → ⊥
past_tables kind k n room t large le fill = let r = tables.reached fill in omega (arith, more_tables kind k n t le, r.size)
