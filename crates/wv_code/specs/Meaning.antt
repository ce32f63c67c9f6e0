-- What an instruction of a method's code means: a constant in place of a pool number, and the index of an instruction
-- in place of a distance in bytes.
use Rattle.std.specs.Prelude.{◌≡◌, ℕ, ◌+◌, ◌<◌, ◌≤◌, ◌==◌, ◌&&◌, ℤ, pos, ◌+ℤ◌, Bool, false, List, [], ◌∷◌, length, slice_index, Some, if◌then◌else◌}
use Rattle.std.specs.List.{AllByRecursion}
use Rattle.wv_base.specs.declared.class_file.PoolEntry.{PoolEntry}
use Rattle.wv_base.specs.declared.insn.Insn.{Insn}
use Rattle.wv_base.specs.declared.insn.Insn.TheVariants as insn
use Rattle.wv_base.specs.declared.insn.Case.{Case}
use Rattle.wv_base.specs.Opcodes.{ldc, ldc_w, putfield, invokeinterface}
use Rattle.wv_base.specs.Descriptor.{HasWords}
use Rattle.wv_insn.specs.declared.raw.Raw.{Raw}
use Rattle.wv_insn.specs.declared.raw.Raw.TheVariants as raw
use Rattle.wv_insn.specs.declared.raw.RawCase.{RawCase}
use Rattle.wv_pool.specs.Constants.{constant_of}
use Rattle.wv_code.specs.Constants.{constants_in}
use Rattle.wv_code.specs.Formed.{last_key}

-- the number names the constant of the instruction (4.4)
abbrev pub NamesConstant : List PoolEntry → ℕ → Insn → Type 0
NamesConstant pool number i = AllByRecursion (λ c. constant_of pool number ≡ Some c) (constants_in i)

-- the distance from the instruction at the offset leads to the instruction with the index
abbrev pub Leads : List ℕ → ℕ → ℤ → ℕ → Type 0
Leads offsets at distance to = (to < length offsets) × (pos (slice_index offsets to) ≡ pos at +ℤ distance)

abbrev pub AllLead : List ℕ → ℕ → List ℤ → List ℕ → Type 0
AllLead offsets at [] [] = Unit {0}
AllLead offsets at (distance ∷ distances) (to ∷ tos) = Leads offsets at distance to × AllLead offsets at distances tos
AllLead offsets at _ _ = ⊥

abbrev pub AllCasesLead : List ℕ → ℕ → List RawCase → List Case → Type 0
AllCasesLead offsets at [] [] = Unit {0}
AllCasesLead offsets at (r ∷ raws) (c ∷ cases) = (r.key ≡ c.key) × Leads offsets at r.offset c.to × AllCasesLead offsets at raws cases
AllCasesLead offsets at _ _ = ⊥

-- a field is no member of an interface (6.5, getstatic to putfield)
abbrev pub IsFlagged : ℕ → Bool → Type 0
IsFlagged op interface = op ≤ putfield → interface ≡ false

-- Where the instructions of a method stand at these offsets, the one that bytes spell at an offset means this one.
abbrev pub Means : List PoolEntry → List ℕ → ℕ → Raw → Insn → Type 0
Means pool offsets at (raw.Plain op) (insn.Plain o) = op ≡ o
Means pool offsets at (raw.Push op value) (insn.Push o v) = (op ≡ o) × (value ≡ v)
Means pool offsets at (raw.Load op number) (insn.Load o value) = (op ≡ o) × NamesConstant pool number (insn.Load o value)
Means pool offsets at (raw.Local op slot wide) (insn.Local o s w) = (op ≡ o) × (slot ≡ s) × (wide ≡ w)
Means pool offsets at (raw.Inc slot by wide) (insn.Inc s b w) = (slot ≡ s) × (by ≡ b) × (wide ≡ w)
Means pool offsets at (raw.Branch op distance) (insn.Branch o to) = (op ≡ o) × Leads offsets at distance to
Means pool offsets at (raw.Table low high other distances) (insn.Table l to targets) =
    (low ≡ l) × (high ≡ last_key l (length targets)) × Leads offsets at other to × AllLead offsets at distances targets
Means pool offsets at (raw.Lookup other raws) (insn.Lookup to cases) = Leads offsets at other to × AllCasesLead offsets at raws cases
Means pool offsets at (raw.Reference op number) (insn.Reference o owner name descriptor interface) =
    (op ≡ o) × NamesConstant pool number (insn.Reference o owner name descriptor interface) × IsFlagged o interface
Means pool offsets at (raw.Interface number count last) (insn.Reference o owner name descriptor interface) =
    (o ≡ invokeinterface) × NamesConstant pool number (insn.Reference o owner name descriptor interface)
    × ((words : ℕ) × HasWords descriptor words × (count ≡ words + 1)) × (last ≡ 0)
Means pool offsets at (raw.Dynamic number) (insn.Site bootstrap name descriptor) = NamesConstant pool number (insn.Site bootstrap name descriptor)
Means pool offsets at (raw.Class op number) (insn.Class o class) = (op ≡ o) × NamesConstant pool number (insn.Class o class)
Means pool offsets at (raw.NewArray kind) (insn.NewArray k) = kind ≡ k
Means pool offsets at (raw.MultiArray number dimensions) (insn.MultiArray class d) = NamesConstant pool number (insn.MultiArray class d) × (dimensions ≡ d)
Means pool offsets at _ _ = ⊥

-- an instruction as it is written: an ldc that is long as ldc_w
abbrev pub widened : Bool → Insn → Insn
widened long (insn.Load op value) = insn.Load (if op == ldc && long then ldc_w else op) value
widened long i = i
