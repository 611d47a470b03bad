pub mod ShapeTable
pub mod BodyLaws
