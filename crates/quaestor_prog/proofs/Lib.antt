mod ReadLemmas
mod RunLemmas
mod ServingLemmas
