-- a fault breaks the store
use Rattle.durable_book.proofs.kept_hub.append.Goals as goal

pub returns-in-Err-clause-usable : goal.returns-in-Err-clause-usable
returns-in-Err-clause-usable g c = λ whole. absurd cc
