use Rattle.wv_code.specs.Reading.{code_fits}
use Rattle.wv_code.proofs.TableRooms.{code_allows}
use Rattle.wv_code.proofs.content.code_len_at.Goals as goal

pub returns-clause-gives : goal.returns-clause-gives
returns-clause-gives c = rw (← c.room_behind.ensures) (c.number_at.ensures.gives (code_fits c.room_behind.result) (λ n. code_allows c.room_behind.result n c.room_behind.type_inv))
