mod CrashLemmas
mod FollowLemmas
mod LeftLemmas
mod LifetimeLemmas
