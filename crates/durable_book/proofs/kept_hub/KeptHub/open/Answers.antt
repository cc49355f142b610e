-- the store stands for the history of its opening, and a crash leaves what was found
use Rattle.std.proofs.Common.{refl}
use Rattle.durable_book.proofs.OpenedLemmas.{opens, leaves-found}
use Rattle.durable_book.proofs.kept_hub.KeptHub.open.Goals as goal

pub returns-in-Ok-clause-stands : goal.returns-in-Ok-clause-stands
returns-in-Ok-clause-stands g c =
    opens c.openings_have_their_journal.ensures.state c.openings_have_their_journal.ensures.legal c.openings_have_their_journal.ensures.journal c.openings_have_their_journal.ensures.unread c.openings_have_their_journal.ensures.whole
    _ _ _ _ c.in-Ok.ensures.opened refl

pub returns-in-Ok-clause-leaves : goal.returns-in-Ok-clause-leaves
returns-in-Ok-clause-leaves g c = leaves-found c.openings_leave_what_was_found.ensures _ _ c.in-Ok.ensures.leaves

pub returns-in-Err-clause-leaves : goal.returns-in-Err-clause-leaves
returns-in-Err-clause-leaves g c = leaves-found c.openings_leave_what_was_found.ensures _ _ c.in-Err.ensures.leaves

pub returns-in-Err-clause-chance : goal.returns-in-Err-clause-chance
returns-in-Err-clause-chance g c = λ sound. c.sound_disks_are_opened.ensures c.args.config (g.K.Disk.at c.args.disk) (g.K.Disk.at c.in-Err.refused.0) c.in-Err.refused.1 sound c.in-Err.ensures.refused
