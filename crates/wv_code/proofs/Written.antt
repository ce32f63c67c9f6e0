-- Writing one instruction more.
use Rattle.std.proofs.Common.{◌≡◌, ℕ, zero, suc, ◌+◌, ◌<◌, ◌≤◌, Bool, true, false, List, [], ◌∷◌, ◌++◌, length, get_or, take, Some, refl, sym, ap, subst, ◌∙◌, add-one, arith, inl, inr}
use Rattle.std.specs.Prelude.{◌==◌, ◌&&◌, not, if◌then◌else◌}
use Rattle.std.specs.List.{flat_map, AllByRecursion}
use Rattle.std.proofs.lemmas.Bool.{eqb-true, cases_lt}
use Rattle.std.proofs.lemmas.List.{take_more, take_all, length-append}
use Rattle.wv_base.specs.declared.class_file.PoolEntry.{PoolEntry}
use Rattle.wv_base.specs.declared.constant.Const.{Const}
use Rattle.wv_base.specs.declared.insn.Insn.{Insn}
use Rattle.wv_base.specs.declared.insn.Insn.TheVariants as insn
use Rattle.wv_base.specs.Opcodes.{ldc}
use Rattle.wv_insn.specs.declared.raw.Raw.{Raw}
use Rattle.wv_insn.specs.Spelling.{plain_spelling, IsTyped, IsInstruction}
use Rattle.wv_pool.specs.Adding.{Keeps}
use Rattle.wv_pool.specs.Constants.{constant_of}
use Rattle.wv_pool.specs.Numbers.{Named}
use Rattle.wv_pool.specs.References.{IsSound, IsPool}
use Rattle.wv_pool.proofs.SoundPools.{constant_back}
use Rattle.wv_pool.proofs.Putting.{number_in}
use Rattle.wv_code.specs.declared.code_layout.CodeLayout.{CodeLayout}
use Rattle.wv_code.specs.Size.{size}
use Rattle.wv_code.specs.Entering.{short_constant, short_constants}
use Rattle.wv_code.specs.Laying.{IsLong, IsWidened, Takes, Stand, IsLayout}
use Rattle.wv_code.specs.Meaning.{widened}
use Rattle.wv_code.specs.Code.{Follow, AllMean, AreWidened}
use Rattle.wv_code.specs.Writing.{IsWritten, WritesCode}
use Rattle.wv_code.proofs.Stands.{start, takes_at, first_start, start_is, last_start, as_many}
use Rattle.wv_code.proofs.Sizes.{written_size}
use Rattle.wv_code.proofs.Follows.{follow_on, mean_push}

-- ---- the size of an instruction is one

long_same : (pool : List PoolEntry) (c : Const) (a b : Bool) → IsLong pool c a → IsLong pool c b → a ≡ b
long_same pool c true true h k = refl
long_same pool c true false h k = absurd (h k)
long_same pool c false true h k = absurd (k h)
long_same pool c false false h k = refl

size_same : (pool : List PoolEntry) (at : ℕ) (i : Insn) (a b : Bool) → IsWidened pool i a → IsWidened pool i b → size a at i ≡ size b at i
size_same pool at (insn.Load op value) a b h k = by_test (op == ldc) refl
  where
    by_test : (t : Bool) → (op == ldc) ≡ t → ◌≡◌ {A = ℕ} (if t && not a then 2 else 3) (if t && not b then 2 else 3)
    by_test true e = let is : op ≡ ldc = eqb-true op ldc e in ap (λ (z : Bool). if not z then 2 else 3) (long_same pool value a b (h is) (k is))
    by_test false e = refl
size_same pool at _ a b h k = refl

-- ---- what a loop keeps

-- the first instructions are written
pub record Encoded (pool : List PoolEntry) (insns : List Insn) (offsets : List ℕ) (len k : ℕ) (code : List ℕ) : Type 0 where
  pub raws : List Raw
  pub others : List Insn
  pub follow : Follow code 0 raws (take k offsets) (length code)
  pub mean : AllMean pool offsets raws (take k offsets) others
  pub widened_are : AreWidened pool (take k insns) others
  pub end : length code ≡ start offsets len k

pub nothing_yet : (pool : List PoolEntry) (insns : List Insn) (offsets : List ℕ) (len : ℕ) → Stand pool 0 insns offsets len → Encoded pool insns offsets len 0 []
nothing_yet pool insns offsets len stand = record { raws = []; others = []; follow = refl; mean = tt; widened_are = tt; end = sym (first_start pool 0 insns offsets len stand) }

widened_push : (pool : List PoolEntry) (insns others : List Insn) (i j : Insn) → AreWidened pool insns others → ((long : Bool) × IsWidened pool i long × (j ≡ widened long i)) → AreWidened pool (insns ++ i ∷ []) (others ++ j ∷ [])
widened_push pool [] [] i j h w = (w, tt)
widened_push pool [] (y ∷ others) i j h w = absurd h
widened_push pool (x ∷ insns) [] i j h w = absurd h
widened_push pool (x ∷ insns) (y ∷ others) i j h w = (h.0, widened_push pool insns others i j h.1 w)

-- an instruction put at the code's end
follow_to : (code : List ℕ) (raws : List Raw) (offsets : List ℕ) (at : ℕ) (r : Raw) → length code ≡ at → Follow code 0 raws offsets (length code) → IsTyped r → IsInstruction r
    → Follow (code ++ plain_spelling at r) 0 (raws ++ r ∷ []) (offsets ++ at ∷ []) (length (code ++ plain_spelling at r))
follow_to code raws offsets at r e h typed instruction =
    subst (λ (z : ℕ). Follow (code ++ plain_spelling z r) 0 (raws ++ r ∷ []) (offsets ++ z ∷ []) (length (code ++ plain_spelling z r))) e
    (subst (λ (n : ℕ). Follow (code ++ plain_spelling (length code) r) 0 (raws ++ r ∷ []) (offsets ++ length code ∷ []) n) (sym (length-append code (plain_spelling (length code) r)))
    (follow_on code raws offsets r h typed instruction))

-- where the next instruction begins
next_start : (pool : List PoolEntry) (insns : List Insn) (offsets : List ℕ) (len k at : ℕ) (d : Insn) (r : Raw) → k < length insns → Stand pool 0 insns offsets len → start offsets len k ≡ at
    → IsWritten pool offsets at r (get_or insns k d) → IsInstruction r → start offsets len (suc k) ≡ at + length (plain_spelling at r)
next_start pool insns offsets len k at d r lt stand begins written instruction =
    let taken = takes_at pool 0 insns offsets len k d stand lt in
    let long = subst (λ (z : ℕ). Takes pool z (get_or insns k d) taken.0) begins taken.1 in
    let sizes : length (plain_spelling at r) ≡ taken.0 =
    written_size pool offsets at r written.0 (get_or insns k d) instruction written.2 ∙ size_same pool at (get_or insns k d) written.0 long.0 written.1 long.1 ∙ sym long.2 in
    omega (arith, taken.2, sizes, begins)

pub one_encoded : (pool : List PoolEntry) (insns : List Insn) (offsets : List ℕ) (len k : ℕ) (d : Insn) (code : List ℕ) (r : Raw) → k < length insns → Stand pool 0 insns offsets len → Encoded pool insns offsets len k code
    → IsWritten pool offsets (get_or offsets k 0) r (get_or insns k d) → IsTyped r → IsInstruction r → Encoded pool insns offsets len (k + 1) (code ++ plain_spelling (get_or offsets k 0) r)
one_encoded pool insns offsets len k d code r lt stand so_far written typed instruction =
    let many : length offsets ≡ length insns = as_many pool 0 insns offsets len stand in
    let there : k < length offsets = omega arith in
    let at : ℕ = get_or offsets k 0 in
    let begins : start offsets len k ≡ at = start_is offsets len k there in
    let here : length code ≡ at = so_far.end ∙ begins in
    let more : take (k + 1) offsets ≡ take k offsets ++ at ∷ [] = take_more offsets k 0 there in
    let more_insns : take (k + 1) insns ≡ take k insns ++ get_or insns k d ∷ [] = take_more insns k d lt in
    let j : Insn = widened written.0 (get_or insns k d) in
    record {
      raws = so_far.raws ++ r ∷ [];
      others = so_far.others ++ j ∷ [];
      follow = rw more (follow_to code so_far.raws (take k offsets) at r here so_far.follow typed instruction);
      mean = rw more (mean_push pool offsets so_far.raws (take k offsets) so_far.others r at j so_far.mean written.2);
      widened_are = rw more_insns (widened_push pool (take k insns) so_far.others (get_or insns k d) j so_far.widened_are (written.0, written.1, refl));
      end = rw add-one (length-append code (plain_spelling at r) ∙ ap (λ (z : ℕ). z + length (plain_spelling at r)) here ∙ sym (next_start pool insns offsets len k at d r lt stand begins written instruction));
    }

pub all_encoded : (pool : List PoolEntry) (insns : List Insn) (layout : CodeLayout) (k : ℕ) (code : List ℕ) → length insns ≤ k → k ≤ length insns → IsLayout pool insns layout → Encoded pool insns layout.offsets layout.len k code
    → WritesCode pool insns layout.offsets code × (length code ≡ layout.len)
all_encoded pool insns layout k code low high laid e =
    let many : length layout.offsets ≡ length insns = as_many pool 0 insns layout.offsets layout.len laid.stand in
    let offsets : take k layout.offsets ≡ layout.offsets = take_all k layout.offsets (omega arith) in
    let insns_all : take k insns ≡ insns = take_all k insns low in
    let at_end : k ≡ length layout.offsets = omega arith in (
      record {
        others = e.others;
        widened_are = subst (λ (z : List Insn). AreWidened pool z e.others) insns_all e.widened_are;
        spelled = record {
          raws = e.raws;
          follow = subst (λ (z : List ℕ). Follow code 0 e.raws z (length code)) offsets e.follow;
          mean = subst (λ (z : List ℕ). AllMean pool layout.offsets e.raws z e.others) offsets e.mean;
        };
      },
      e.end ∙ ap (start layout.offsets layout.len) at_end ∙ last_start layout.offsets layout.len,
    )

-- ---- a layout stays one where constants are added

pub all_front : {X : Type 0} (P : X → Type 0) (xs ys : List X) → AllByRecursion P (xs ++ ys) → AllByRecursion P xs
all_front P [] ys h = tt
all_front P (x ∷ xs) ys h = (h.0, all_front P xs ys h.1)

pub all_back : {X : Type 0} (P : X → Type 0) (xs ys : List X) → AllByRecursion P (xs ++ ys) → AllByRecursion P ys
all_back P [] ys h = h
all_back P (x ∷ xs) ys h = all_back P xs ys h.1

-- the constants of one of the instructions
pub constants_at : {X : Type 0} (P : Const → Type 0) (f : X → List Const) (xs : List X) (k : ℕ) (d : X) → k < length xs → AllByRecursion P (flat_map f xs) → AllByRecursion P (f (get_or xs k d))
constants_at P f [] k d lt h = absurd (omega arith)
constants_at P f (x ∷ xs) zero d lt h = all_front P (f x) (flat_map f xs) h
constants_at P f (x ∷ xs) (suc k) d lt h = constants_at P f xs k d (omega arith) (all_back P (f x) (flat_map f xs) h)

pub long_kept : (old new : List PoolEntry) (c : Const) (long : Bool) → AllByRecursion (IsSound old) old → Keeps old new → ((n : ℕ) (c : Const) → constant_of old n ≡ Some c → constant_of new n ≡ Some c) → Named old c → IsLong old c long → IsLong new c long
long_kept old new c false sound kept older named h = (h.0, older h.0 c h.1, h.2)
long_kept old new c true sound kept older named h = λ short. elim (cases_lt (length old) short.0) [
  | inl lt ↦ let le : named.0 ≤ length old = number_in old named.0 c named.1 in let few : short.0 < 256 = short.2 in h (named.0, named.1, omega arith)
  | inr le ↦ h (short.0, constant_back old kept.0 short.0 c sound le (subst (λ (p : List PoolEntry). constant_of p short.0 ≡ Some c) kept.1 short.1), short.2)
]

takes_kept : (old new : List PoolEntry) (at bytes : ℕ) (i : Insn) → AllByRecursion (IsSound old) old → Keeps old new → ((n : ℕ) (c : Const) → constant_of old n ≡ Some c → constant_of new n ≡ Some c)
    → AllByRecursion (Named old) (short_constant i) → Takes old at i bytes → Takes new at i bytes
takes_kept old new at bytes (insn.Load op value) sound kept older named h =
    (h.0, (λ is. long_kept old new value h.0 sound kept older (rw is at named).0 (h.1 is)), h.2)
takes_kept old new at bytes _ sound kept older named h = h

stand_kept : (old new : List PoolEntry) (at : ℕ) (insns : List Insn) (offsets : List ℕ) (end : ℕ) → AllByRecursion (IsSound old) old → Keeps old new → ((n : ℕ) (c : Const) → constant_of old n ≡ Some c → constant_of new n ≡ Some c)
    → AllByRecursion (Named old) (short_constants insns) → Stand old at insns offsets end → Stand new at insns offsets end
stand_kept old new at [] [] end sound kept older named h = h
stand_kept old new at [] (o ∷ offsets) end sound kept older named h = absurd h
stand_kept old new at (i ∷ insns) [] end sound kept older named h = absurd h
stand_kept old new at (i ∷ insns) (o ∷ offsets) end sound kept older named h = (
  h.0,
  (
    h.1.0,
    takes_kept old new at h.1.0 i sound kept older (all_front (Named old) (short_constant i) (short_constants insns) named) h.1.1,
    stand_kept old new (at + h.1.0) insns offsets end sound kept older (all_back (Named old) (short_constant i) (short_constants insns) named) h.1.2,
  ),
)

pub layout_kept : (old new : List PoolEntry) (insns : List Insn) (layout : CodeLayout) → IsPool old → Keeps old new → ((n : ℕ) (c : Const) → constant_of old n ≡ Some c → constant_of new n ≡ Some c)
    → AllByRecursion (Named old) (short_constants insns) → IsLayout old insns layout → IsLayout new insns layout
layout_kept old new insns layout pool kept older named laid = record {
  stand = stand_kept old new 0 insns layout.offsets layout.len pool.1 kept older named laid.stand;
  small = laid.small;
  reach = laid.reach;
}

-- the same, as a loop has it
pub step_encoded : (pool : List PoolEntry) (insns : List Insn) (offsets all : List ℕ) (len k at : ℕ) (i : Insn) (code new : List ℕ) (r : Raw) → offsets ≡ all → at ≡ get_or offsets k 0 → i ≡ get_or insns k i → k < length insns
    → Stand pool 0 insns all len → Encoded pool insns offsets len k code → IsWritten pool offsets at r i → IsTyped r → IsInstruction r → new ≡ code ++ plain_spelling at r → Encoded pool insns offsets len (k + 1) new
step_encoded pool insns offsets all len k at i code new r same here item lt stand so_far written typed instruction put =
    rw (put, here)
    (one_encoded pool insns offsets len k i code r lt (subst (λ (z : List ℕ). Stand pool 0 insns z len) (sym same) stand) so_far
    (subst (λ (z : Insn). IsWritten pool offsets (get_or offsets k 0) r z) item (subst (λ (z : ℕ). IsWritten pool offsets z r i) here written)) typed instruction)

pub loop_encoded : (pool : List PoolEntry) (insns : List Insn) (offsets : List ℕ) (layout : CodeLayout) (k : ℕ) (code : List ℕ) → offsets ≡ layout.offsets → length insns ≤ k → k ≤ length insns → IsLayout pool insns layout
    → Encoded pool insns offsets layout.len k code → WritesCode pool insns layout.offsets code × (length code ≡ layout.len)
loop_encoded pool insns offsets layout k code same low high laid e = all_encoded pool insns layout k code low high laid (subst (λ (z : List ℕ). Encoded pool insns z layout.len k code) same e)

-- ---- instructions have one layout

pub one_stand : (pool : List PoolEntry) (at : ℕ) (insns : List Insn) (offsets places : List ℕ) (end last : ℕ) → Stand pool at insns offsets end → Stand pool at insns places last → (offsets ≡ places) × (end ≡ last)
one_stand pool at [] [] [] end last h k = (refl, h ∙ sym k)
one_stand pool at [] [] (p ∷ places) end last h k = absurd k
one_stand pool at [] (o ∷ offsets) places end last h k = absurd h
one_stand pool at (i ∷ insns) [] places end last h k = absurd h
one_stand pool at (i ∷ insns) (o ∷ offsets) [] end last h k = absurd k
one_stand pool at (i ∷ insns) (o ∷ offsets) (p ∷ places) end last h k =
    let same : h.1.0 ≡ k.1.0 = h.1.1.2 ∙ size_same pool at i h.1.1.0 k.1.1.0 h.1.1.1 k.1.1.1 ∙ sym k.1.1.2 in
    let rest = one_stand pool (at + h.1.0) insns offsets places end last h.1.2 (subst (λ (z : ℕ). Stand pool (at + z) insns places last) (sym same) k.1.2) in
    let heads : o ≡ p = h.0 ∙ sym k.0 in
    (cc (heads, rest.0), rest.1)
