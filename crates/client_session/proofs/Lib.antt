mod NotedLemmas
mod ReadLemmas
mod SessionLemmas
