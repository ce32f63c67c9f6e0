-- What the numbers of instructions must name, by the entries of a pool in which each number names what its place needs.
use Rattle.std.specs.Prelude.{◌≡◌, ℕ, ◌+◌, ◌<◌, ◌≤◌, List}
use Rattle.wv_base.specs.declared.class_file.PoolEntry.{PoolEntry}
use Rattle.wv_base.specs.declared.class_file.PoolEntry.TheVariants as entries
use Rattle.wv_base.specs.Opcodes.{putfield, invokevirtual, invokestatic}
use Rattle.wv_base.specs.Descriptor.{HasWords}
use Rattle.wv_code.specs.Formed.{dimensions_of}

-- how many words of the operand stack the constant of an entry takes that an instruction can load (5.1, 6.5 ldc and ldc2_w)
abbrev pub entry_words : PoolEntry → ℕ
entry_words (entries.Integer value) = 1
entry_words (entries.Float bits) = 1
entry_words (entries.Long value) = 2
entry_words (entries.Double bits) = 2
entry_words (entries.Class name) = 1
entry_words (entries.String text) = 1
entry_words (entries.MethodHandle kind reference) = 1
entry_words (entries.MethodType descriptor) = 1
entry_words _ = 0

-- the opcode takes the member of an entry (6.5 getstatic to invokestatic)
abbrev pub EntryTaken : ℕ → PoolEntry → Type 0
EntryTaken op (entries.Field class pair) = op ≤ putfield
EntryTaken op (entries.Method class pair) = putfield < op
EntryTaken op (entries.InterfaceMethod class pair) = (invokevirtual < op) × (op ≤ invokestatic)
EntryTaken op _ = ⊥

abbrev pub IsSite : PoolEntry → Type 0
IsSite (entries.InvokeDynamic bootstrap pair) = Unit {0}
IsSite _ = ⊥

-- the count is the words of the descriptor's arguments and one for the object (6.5 invokeinterface)
abbrev pub IsCountOf : List ℕ → ℕ → Type 0
IsCountOf descriptor count = (words : ℕ) × HasWords descriptor words × (count ≡ words + 1)

-- the type has so many dimensions or more, and one is asked for at least (6.5 multianewarray)
abbrev pub HasDimensions : List ℕ → ℕ → Type 0
HasDimensions name dimensions = (1 ≤ dimensions) × (dimensions ≤ dimensions_of name)
