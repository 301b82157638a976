pub mod PieceLaws
pub mod WriteLaws
pub mod SpotLaws
pub mod SpreadLaws
pub mod SeenLaws
pub mod ValueLaws
