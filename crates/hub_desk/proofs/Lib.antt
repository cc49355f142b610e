mod DropLemmas
mod FiguresLemmas
mod HistoryLemmas
mod SeatedLemmas
