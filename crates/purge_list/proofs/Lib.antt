mod ChangeLemmas
mod PurgeLemmas
mod StandardFacts
