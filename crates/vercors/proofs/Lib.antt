pub mod FaultLemmas
pub mod ProgramLemmas
pub mod TextLemmas
pub mod VerdictLemmas
pub mod AnswerLemmas
