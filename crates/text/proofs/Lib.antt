pub mod PutLaws
pub mod StepLaws
pub mod LoopLaws
pub mod StageLaws
pub mod SideLaws
