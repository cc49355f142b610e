mod HeadLemmas
mod LinkLemmas
mod NumberLemmas
mod PieceLemmas
mod RequestLemmas
mod StandardFacts
mod TakenLemmas
