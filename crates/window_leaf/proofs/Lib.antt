-- The laws of nodes without children that are asked by windows.
pub mod Records
pub mod Ranges
pub mod Nodes
pub mod TermLaws
pub mod PlaneLaws
pub mod PhraseNodes
