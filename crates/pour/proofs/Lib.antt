pub mod PourLaws
pub mod PadLaws
pub mod StrideLaws
