-- a record whose names have no escape is asked for without a look at the table
use Rattle.std.proofs.Common.{◌≡◌, ◌∙◌, ap, sym, subst}
use Rattle.std.specs.Option.{option_copied}
use Rattle.std.specs.Prelude.{IfOk}
use Rattle.http_front.specs.Answered.{and_then}
use Rattle.http_front.specs.Asks.{method_in, record_by}
use Rattle.http_front.specs.Routes.{collection_in, id_in}
use Rattle.http_front.specs.declared.routes.Route.TheVariants.{Record}
use Rattle.http_front.specs.Target.{local_part}
use Rattle.http_front.proofs.EarlyLemmas.{early_free}
use Rattle.http_front.proofs.UnescapedLemmas.{asked_at, is_read, record_asked, record_free}
use Rattle.http_front.proofs.ask.ask_of.Goals as goal

pub returns-then-serve_records-clause-asked : goal.returns-then-serve_records-clause-asked
returns-then-serve_records-clause-asked c =
    let s = c.args.routes.now in
    let m = c.args.request.now in
    let local = c.in-Some.local.now in
    let collection = c.in-Ok.collection in
    let id = c.in-Ok-read.id in
    let one = is_read (collection_in local) collection c.read.result (rw (← c.names_behind.ensures.first) c.read.ensures.told) c.in-Ok.is in
    let two = is_read (id_in local) id c.read-then-serve_records.result (rw (← c.names_behind.ensures.second) c.read-then-serve_records.ensures.told) c.in-Ok-read.is in
    let starts = sym c.starts_with.ensures.value ∙ c.if-starts_with.true in
    let served = sym c.serve_records.ensures ∙ c.if-serve_records.true in
    let local_is = ap local_part (sym c.target.ensures) ∙ sym c.local_part.ensures ∙ ap option_copied c.in-Some.is in
    let asked = record_asked s m local collection id starts served one two in
    let whole = asked_at s m local (and_then (method_in m Record) (λ method. record_by m collection id method)) (cc) local_is asked in
    subst (λ answer. IfOk c.ask_record.result (λ given. given ≡ answer)) (sym whole) c.ask_record.ensures.asked

pub returns-then-serve_records-clause-early : goal.returns-then-serve_records-clause-early
returns-then-serve_records-clause-early c =
    let s = c.args.routes.now in
    let m = c.args.request.now in
    let local = c.in-Some.local.now in
    let collection = c.in-Ok.collection in
    let id = c.in-Ok-read.id in
    let one = is_read (collection_in local) collection c.read.result (rw (← c.names_behind.ensures.first) c.read.ensures.told) c.in-Ok.is in
    let two = is_read (id_in local) id c.read-then-serve_records.result (rw (← c.names_behind.ensures.second) c.read-then-serve_records.ensures.told) c.in-Ok-read.is in
    let starts = sym c.starts_with.ensures.value ∙ c.if-starts_with.true in
    let served = sym c.serve_records.ensures ∙ c.if-serve_records.true in
    let local_is = ap local_part (sym c.target.ensures) ∙ sym c.local_part.ensures ∙ ap option_copied c.in-Some.is in
    let free = record_free s m local collection id starts served one two in
    λ e. c.ask_record.ensures.early (sym free ∙ early_free s m local (cc) local_is e)

pub returns-clause-early : goal.returns-clause-early
returns-clause-early c =
    let local_is = ap local_part (sym c.target.ensures) ∙ sym c.local_part.ensures ∙ ap option_copied c.in-Some.is in
    λ e. c.ask_at.ensures.early (early_free c.args.routes.now c.args.request.now c.in-Some.local.now (cc) local_is e)
