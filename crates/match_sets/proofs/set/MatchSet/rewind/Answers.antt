use Rattle.std.proofs.Common.{ℕ, ◌≤◌, sym, subst, vec_capacity}
use Rattle.match_sets.proofs.UndoLemmas.{rewound, untake_fits, rows_rewound}
use Rattle.match_sets.proofs.set.MatchSet.rewind.Goals as goal

-- there is memory for the row that was taken out
pub untake-requires : goal.untake-requires
untake-requires c =
    untake_fits c.requires.0 c.args.self.now c.in-Step.taken c.in-Step.put c.in-Step.cut c.uncut.new.rows.items c.unput.new.rows.items (vec_capacity c.unput.new.rows) (rewound c.requires.0 c.args.self.now c.args.rows c.in-Step.taken c.in-Step.put c.in-Step.cut c.in-Step.is c.requires.1)
    (rw (← c.self.view_is) c.uncut.ensures.items) c.unput.ensures.items (rw (← c.self.view_is) (subst (λ (n : ℕ). vec_capacity c.self.inside.rows ≤ n) (sym c.unput.ensures.capacity) c.uncut.ensures.capacity))

pub returns-in-Step-clause-rows : goal.returns-in-Step-clause-rows
returns-in-Step-clause-rows c = λ before is.
    rows_rewound before c.args.self.now c.in-Step.taken c.in-Step.put c.in-Step.cut c.uncut.new.rows.items c.unput.new.rows.items _ (rewound before c.args.self.now c.args.rows c.in-Step.taken c.in-Step.put c.in-Step.cut c.in-Step.is is)
    (rw (← c.self.view_is) c.uncut.ensures.items) c.unput.ensures.items c.untake.ensures.items
