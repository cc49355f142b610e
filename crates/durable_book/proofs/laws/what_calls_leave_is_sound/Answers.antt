-- one record waits at most
use Rattle.durable_book.proofs.SoundLemmas.{sound-write, sound-read, sound-found}
use Rattle.durable_book.proofs.laws.what_calls_leave_is_sound.Goals as goal

pub returns-clause-write : goal.returns-clause-write
returns-clause-write c = sound-write

pub returns-clause-read : goal.returns-clause-read
returns-clause-read c = sound-read

pub returns-clause-opening : goal.returns-clause-opening
returns-clause-opening c = sound-found
