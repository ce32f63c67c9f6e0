use Rattle.wv_code.specs.Reading.{attributes_fit}
use Rattle.wv_code.proofs.TableRooms.{attributes_allow}
use Rattle.wv_code.proofs.content.attribute_count_at.Goals as goal

pub returns-clause-gives : goal.returns-clause-gives
returns-clause-gives c = rw (← c.room_behind.ensures) (c.number_at.ensures.gives (attributes_fit c.room_behind.result) (λ n. attributes_allow c.room_behind.result n c.room_behind.type_inv))
