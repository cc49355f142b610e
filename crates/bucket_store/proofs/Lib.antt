pub mod BucketLemmas
pub mod JournalLemmas
pub mod RisingLemmas
