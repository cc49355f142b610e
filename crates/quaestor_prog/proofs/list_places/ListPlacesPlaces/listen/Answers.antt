-- the doors that were there are given, and no connection came through them
use Rattle.std.proofs.Common.{sym, ◌∙◌}
use Rattle.std.proofs.lemmas.List.{nil_from_length}
use Rattle.quaestor_prog.proofs.list_places.ListPlacesPlaces.listen.Goals as goal

pub returns-in-Some-clause-unused : goal.returns-in-Some-clause-unused
returns-in-Some-clause-unused g c =
    let are = c.args.self.now.unused c.in-Some.doors (sym c.take.ensures.value ∙ c.in-Some.is) in
    record { handed = nil_from_length _ are.0; away = are.1; closings = are.2; faults = are.3 }
