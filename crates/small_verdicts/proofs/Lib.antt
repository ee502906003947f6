pub mod StoreLemmas
pub mod SortLemmas
pub mod RulesLemmas
pub mod SearchLemmas
pub mod JudgedLemmas
