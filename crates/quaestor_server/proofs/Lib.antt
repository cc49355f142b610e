mod AnswerLemmas
mod ConversationLemmas
mod DeterminedLemmas
mod PrefixLemmas
mod TextLemmas
mod VisitLemmas
mod WellLemmas
