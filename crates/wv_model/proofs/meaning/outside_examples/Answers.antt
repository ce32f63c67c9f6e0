use Rattle.std.proofs.Common.{refl}
use Rattle.wv_model.specs.Platform.{interfaces, throwables}
use Rattle.wv_model.proofs.meaning.outside_examples.Goals as goal

pub returns-clause-goes_on : goal.returns-clause-goes_on
unfolding interfaces
returns-clause-goes_on c = refl

pub returns-clause-hooked_goes_on : goal.returns-clause-hooked_goes_on
unfolding interfaces
returns-clause-hooked_goes_on c = refl

pub returns-clause-no_answer : goal.returns-clause-no_answer
unfolding interfaces
returns-clause-no_answer c = refl

pub returns-clause-bad_answer : goal.returns-clause-bad_answer
unfolding interfaces
returns-clause-bad_answer c = refl

pub returns-clause-not_thrown : goal.returns-clause-not_thrown
unfolding interfaces throwables
returns-clause-not_thrown c = refl

pub returns-clause-first_frame : goal.returns-clause-first_frame
unfolding interfaces throwables
returns-clause-first_frame c = refl

pub returns-clause-second_frame : goal.returns-clause-second_frame
unfolding interfaces throwables
returns-clause-second_frame c = refl

pub returns-clause-hooked_throw : goal.returns-clause-hooked_throw
unfolding interfaces throwables
returns-clause-hooked_throw c = refl

pub returns-clause-heap_full : goal.returns-clause-heap_full
unfolding interfaces throwables
returns-clause-heap_full c = refl

pub returns-clause-main_outside : goal.returns-clause-main_outside
unfolding interfaces
returns-clause-main_outside c = refl

pub returns-clause-thrown_main : goal.returns-clause-thrown_main
unfolding interfaces throwables
returns-clause-thrown_main c = refl

pub returns-clause-cells_taken : goal.returns-clause-cells_taken
unfolding interfaces throwables
returns-clause-cells_taken c = refl
