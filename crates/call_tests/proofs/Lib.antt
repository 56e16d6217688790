pub mod TaskGraphs
