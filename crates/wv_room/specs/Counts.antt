-- What is to come, with so many items more.
use Rattle.std.specs.Prelude.{ℕ, ◌+◌, ◌*◌}
use Rattle.wv_room.specs.declared.elements.Elements.{Elements}
use Rattle.wv_room.specs.declared.frames.Frames.{Frames}
use Rattle.wv_room.specs.declared.tables.Tables.{Tables}
use Rattle.wv_room.specs.declared.element_count.ElementKind.{ElementKind}
use Rattle.wv_room.specs.declared.element_count.ElementKind.TheVariants as element
use Rattle.wv_room.specs.declared.frame_count.FrameKind.{FrameKind}
use Rattle.wv_room.specs.declared.frame_count.FrameKind.TheVariants as frame
use Rattle.wv_room.specs.declared.table_count.TableKind.{TableKind}
use Rattle.wv_room.specs.declared.table_count.TableKind.TheVariants as table
use Rattle.wv_room.specs.Elements.{ElementsFill}
use Rattle.wv_room.specs.Frames.{FramesFill}
use Rattle.wv_room.specs.Tables.{TablesFill}

-- a pair is the number of a name and a value (JVM Specification 4.7.16)
abbrev pub elements_with : ElementKind → ℕ → Elements → Elements
elements_with element.Value k e = record e { values = e.values + k }
elements_with element.Pair k e = record e { bytes = e.bytes + 2 * k; values = e.values + k }
elements_with element.Annotation k e = record e { annotations = e.annotations + k }
elements_with element.Parameter k e = record e { parameters = e.parameters + k }

abbrev pub frames_with : FrameKind → ℕ → Frames → Frames
frames_with frame.Type k f = record f { types = f.types + k }
frames_with frame.Frame k f = record f { frames = f.frames + k }

-- a range of the exception table is eight bytes (JVM Specification 4.7.3)
abbrev pub tables_with : TableKind → ℕ → Tables → Tables
tables_with table.Byte k t = record t { bytes = t.bytes + k }
tables_with table.Range k t = record t { bytes = t.bytes + 8 * k }
tables_with table.Attribute k t = record t { attributes = t.attributes + k }

abbrev pub ElementsFillRoom : Elements → ℕ → Type 0
ElementsFillRoom e room = ElementsFill e.bytes e.values e.annotations e.parameters room

abbrev pub FramesFillRoom : Frames → ℕ → Type 0
FramesFillRoom f room = FramesFill f.bytes f.types f.lists f.frames room

abbrev pub TablesFillRoom : Tables → ℕ → Type 0
TablesFillRoom t room = TablesFill t.bytes t.attributes t.attribute_tables t.range_tables room
