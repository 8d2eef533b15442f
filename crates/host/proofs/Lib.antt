pub mod HostExamples
pub mod HostReplica
pub mod RestartLaws
