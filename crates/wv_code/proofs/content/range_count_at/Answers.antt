use Rattle.wv_code.specs.Reading.{ranges_fit}
use Rattle.wv_code.proofs.TableRooms.{ranges_allow}
use Rattle.wv_code.proofs.content.range_count_at.Goals as goal

pub returns-clause-gives : goal.returns-clause-gives
returns-clause-gives c = rw (← c.room_behind.ensures) (c.number_at.ensures.gives (ranges_fit c.room_behind.result) (λ n. ranges_allow c.room_behind.result n c.room_behind.type_inv))
