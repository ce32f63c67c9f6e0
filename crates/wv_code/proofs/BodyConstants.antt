-- The constants of a body.
use Rattle.std.proofs.Common.{◌≡◌, ℕ, ◌+◌, ◌<◌, false, List, [], ◌∷◌, length, get_or, take, drop, Some, refl, sym, subst}
use Rattle.std.specs.Prelude.{codes, ◌==◌}
use Rattle.std.proofs.lemmas.List.{take_more}
use Rattle.wv_base.specs.declared.class_file.PoolEntry.{PoolEntry}
use Rattle.wv_base.specs.declared.constant.Const.{Const}
use Rattle.wv_base.specs.declared.constant.Const.TheVariants as constants
use Rattle.wv_base.specs.declared.frame.FrameAt.{FrameAt}
use Rattle.wv_pool.specs.Adding.{needs, AreTooMany, Keeps}
use Rattle.wv_pool.specs.Constants.{constant_of}
use Rattle.wv_pool.specs.Numbers.{Named}
use Rattle.wv_code.specs.Entering.{Puts, Enters, MeetsFull}
use Rattle.wv_code.specs.BodyConstants.{table_names}
use Rattle.wv_code.proofs.Lists.{split_at}
use Rattle.wv_code.proofs.Entered.{Entered, one_more}

pub table_named : (frames : List FrameAt) → (length frames == 0) ≡ false → table_names frames ≡ constants.Utf8 (codes "StackMapTable") ∷ []
table_named [] some = absurd cc
table_named (one ∷ others) some = refl

-- one of the constants more
pub each_more : (old middle new : List PoolEntry) (cs : List Const) (k : ℕ) (d : Const) → k < length cs → Entered old (take k cs) middle → ((n : ℕ) (c : Const) → constant_of middle n ≡ Some c → constant_of new n ≡ Some c)
    → Keeps middle new → Puts middle (get_or cs k d) new → Named new (get_or cs k d) → Entered old (take (k + 1) cs) new
each_more old middle new cs k d lt so_far older kept puts named =
    subst (λ (t : List Const). Entered old t new) (sym (take_more cs k d lt)) (one_more old middle new (take k cs) (get_or cs k d) so_far older kept puts named)

-- where one of them has no room
pub full_at : (old middle : List PoolEntry) (cs : List Const) (k : ℕ) (d : Const) → k < length cs → Enters old (take k cs) middle → AreTooMany middle (needs (get_or cs k d)) → MeetsFull old cs
full_at old middle cs k d lt entered full = record {
  before = take k cs;
  constant = get_or cs k d;
  after = drop (k + 1) cs;
  pool = middle;
  parts = split_at cs k d lt;
  entered = entered;
  full = full;
}
